-- `ranges::all_in_range` meets its contract: the fold over the list, and the definition's recursion. Assumes nothing.
use Rattle.std.proofs.Common.{◌&&◌, true, ◌∙◌, rules}
use Rattle.std.proofs.lemmas.Iterator.{YieldsList-from_slice}
use Rattle.std.proofs.lemmas.Iterator.Consumers.{fold_from_yields_List}
use Rattle.ranges.specs.Ranges.{in_range}
use Rattle.ranges.proofs.Lists.{range_folded}
use Rattle.ranges.proofs.all_in_range.Goals as goal

pub returns : goal.returns
returns c =
    let s = c.args in
    fold_from_yields_List _ (λ b x. b && in_range s.lo s.hi x) true c.fold.result c.fold.ensures.ran (YieldsList-from_slice s.list.now (cc)) (λ a x b q h. search rules)
    ∙ range_folded s.lo s.hi true s.list.now
