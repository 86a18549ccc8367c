use Rattle.packing.specs.Packing.{lane_from}
use Rattle.packing.proofs.Read.{behind}
use Rattle.packing.proofs.lane_from.Goals as goal

pub returns : goal.returns
unfolding lane_from
returns c = simp (c.tape_from-tape.ensures, c.ramp_from-rain.ensures, c.ramp_from-daylight.ensures, c.setup_from-setup.ensures, behind)
