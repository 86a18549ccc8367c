-- `automation::reached` meets its contract. Assumes nothing.
use Rattle.std.proofs.Common.{◌<◌, ◌≤◌, sym, ◌∙◌, refl, le-leb, add-one, rules, tests}
use Rattle.std.proofs.lemmas.Bool.{lt-leb}
use Rattle.std.proofs.lemmas.Iterator.{YieldsList-from_slice, IsFirst-from_position, index_from_first}
use Rattle.automation.specs.Automation.{reached}
use Rattle.automation.proofs.Sweep.reached.Goals as goal

pub returns : goal.returns
unfolding reached
returns c =
    let n = c.args.n in
    let ps = c.args.self.positions.now in
    let first = IsFirst-from_position _ _ _ (λ p. n < p) (λ p. p ≤ n) c.position.ensures.ran (YieldsList-from_slice ps cc) (λ x q k. search (rules, tests)) (λ x q k. search (rules, tests)) in
    c.unwrap_or.ensures ∙ sym (index_from_first (λ l. reached l n) (λ p. n < p) (λ p. p ≤ n) refl (λ p l h. rw (lt-leb p n h)) (λ p l h. rw (le-leb p n h, add-one (reached l n))) ps _ first)
