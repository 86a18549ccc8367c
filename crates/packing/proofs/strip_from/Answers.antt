use Rattle.packing.specs.Packing.{strip_from}
use Rattle.packing.proofs.Read.{behind}
use Rattle.packing.proofs.strip_from.Goals as goal

pub returns : goal.returns
unfolding strip_from
returns c = simp (c.lane_from-lane.ensures, c.bus_from-bus.ensures, behind)
