use Rattle.std.proofs.Common.{rules}
use Rattle.eight.proofs.Lanes.{same_lanes}
use Rattle.oscillators.proofs.phases.Goals as goal

pub returns : goal.returns
returns c = search (rules, same_lanes)
