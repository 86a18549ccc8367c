-- The loop's invariant: t is lane by lane what the steps so far took, and the i steps that are left take it to the convergent.
use Rattle.std.proofs.Common.{rules, arith, sym, ◌∙◌}
use Rattle.std.proofs.lemmas.Simd.{splat_is_map}
use Rattle.elementary.specs.Elementary.{tanh_step}
use Rattle.elementary.specs.Convergent.{convergent}
use Rattle.elementary.proofs.Down.{down_step, down_zero}
use Rattle.eight.proofs.Lanes.{tanh_lanes, as_mapped}
use Rattle.eight.proofs.convergents.Goals as goal

pub loop-i-init : goal.loop-i-init
unfolding convergent
loop-i-init c = (λ u. c.from-t.result, splat_is_map c.args.z 8 c.from-t.result (search rules), λ u. rw c.from-t.ensures)

pub loop-i-preserved : goal.loop-i-preserved
loop-i-preserved c =
    let l = c.loop-i in
    let g = l.invariant.0 in (
      λ u. tanh_step u l.i (g u),
      tanh_lanes c.args.z (search rules) g l.t l.invariant.1 _ _ c.from.ensures,
      λ u. sym (down_step (tanh_step u) l.i (g u) c.loop-i-test.true) ∙ l.invariant.2 u,
    )

pub returns : goal.returns
returns c =
    let l = c.loop-i in
    as_mapped c.args.z _ l.invariant.0 l.t l.invariant.1 (λ u. sym (down_zero (tanh_step u) l.i (l.invariant.0 u) (omega (arith, c.loop-i-test.false))) ∙ l.invariant.2 u)
