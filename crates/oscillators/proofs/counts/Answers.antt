use Rattle.std.proofs.Common.{rules, refl}
use Rattle.eight.proofs.Lanes.{same_lanes}
use Rattle.oscillators.proofs.counts.Goals as goal

pub returns : goal.returns
returns c = same_lanes _ _ c.from_fn.ensures.items.long refl (search rules) (search rules) (search rules) (search rules) (search rules) (search rules) (search rules) (search rules)
