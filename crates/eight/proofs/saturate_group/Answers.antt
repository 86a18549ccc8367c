use Rattle.std.proofs.Common.{◌≡◌, ℕ, ◌+◌, ◌<◌, ◌≤◌, List, get_or, length, arith, rules, ◌∙◌, ap, sym}
use Rattle.std.proofs.lemmas.List.{get_or-map}
use lib.Ieee.{Float, nan}
use Rattle.eight.specs.Each.{saturated_over}
use Rattle.eight.proofs.Groups.{done_one, done_all}
use Rattle.eight.proofs.Lanes.{below_eight}
use Rattle.eight.proofs.saturate_group.Goals as goal
use Rattle.eight.proofs.saturate_group.Goals.{then-i-s, else-i-s}

pub loop-i-preserved : goal.loop-i-preserved
loop-i-preserved c =
    let l = c.loop-i in
    let s = c.args.s.now in
    let x = c.from_fn-x.result in
    let f = saturated_over c.args.drive c.args.top in
    let copied : (k : ℕ) → k < 8 → k < length s → get_or x k nan ≡ get_or s k nan =
    below_eight (λ k. k < length s → get_or x k nan ≡ get_or s k nan) (λ h. search rules) (λ h. search rules) (λ h. search rules) (λ h. search rules) (λ h. search rules) (λ h. search rules) (λ h. search rules) (λ h. search rules) in
    elim c.if-i-s.branch [
      | then-i-s w ↦
          let within : l.i < length s = omega arith in
          let y = ap (λ (t : List Float). get_or t l.i nan) c.saturate_eight.ensures ∙ get_or-map f x l.i nan nan (search rules) in
          w.s-is ∙ done_one f s l.i l.s _ l.invariant within (y ∙ ap f (copied l.i c.loop-i-test.true within))
      | else-i-s w ↦
          let past : length s ≤ l.i = omega arith in
          w.s-is ∙ l.invariant ∙ done_all f s l.i past ∙ sym (done_all f s (l.i + 1) (omega (arith, past)))
    ]

pub returns : goal.returns
returns c = c.loop-i.invariant ∙ done_all (saturated_over c.args.drive c.args.top) c.args.s.now c.loop-i.i (omega (arith, c.requires, c.loop-i-test.false))
