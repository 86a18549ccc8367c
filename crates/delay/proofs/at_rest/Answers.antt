use Rattle.std.proofs.Common.{◌∙◌, rules, tests}
use lib.Ieee.{eq}
use Rattle.std.proofs.lemmas.Iterator.{YieldsList-from_slice}
use Rattle.std.proofs.lemmas.Iterator.Search.{all_from_yields_List}
use Rattle.casts.specs.Arithmetic.{nought}
use Rattle.delay.proofs.Rest.{all_zero-list_all}
use Rattle.delay.proofs.at_rest.Goals as goal

pub returns : goal.returns
returns c =
    all_from_yields_List (λ x. eq x nought) _ _ _ c.all.ensures.ran (YieldsList-from_slice c.args.ring.now cc) (λ x b q k. search (rules, tests)) ∙ all_zero-list_all c.args.ring.now
