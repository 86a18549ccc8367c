use Rattle.std.proofs.Common.{rules}
use Rattle.eight.proofs.Lanes.{zipped_lanes}
use Rattle.eight.proofs.all_held.Goals as goal

pub returns : goal.returns
returns c = search (rules, zipped_lanes)
