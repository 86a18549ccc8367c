use Rattle.std.proofs.Common.{rules}
use Rattle.eight.proofs.Lanes.{mapped_lanes}
use Rattle.eight.proofs.all_turned.Goals as goal

pub returns : goal.returns
returns c = search (rules, mapped_lanes)
