-- The loop's invariant: s is lane by lane what the terms so far took, and the j terms that are left take it to what all take 1 to.
use Rattle.std.proofs.Common.{rules, arith, sym, refl, ◌∙◌}
use Rattle.std.proofs.lemmas.Simd.{splat_is_map}
use Rattle.casts.specs.Arithmetic.{one}
use Rattle.elementary.proofs.Down.{down_step, down_zero}
use Rattle.eight.specs.Each.{wave_step}
use Rattle.eight.proofs.Lanes.{wave_lanes, as_mapped}
use Rattle.eight.proofs.wave.Goals as goal

pub loop-j-init : goal.loop-j-init
loop-j-init c = (λ u. one, splat_is_map c.args.z 8 one (search rules), λ u. refl)

pub loop-j-preserved : goal.loop-j-preserved
loop-j-preserved c =
    let l = c.loop-j in
    let g = l.invariant.0 in (
      λ u. wave_step c.args.odd u l.j (g u),
      wave_lanes c.args.z (search rules) g l.s l.invariant.1 _ _ c.from.ensures,
      λ u. sym (down_step (wave_step c.args.odd u) l.j (g u) c.loop-j-test.true) ∙ l.invariant.2 u,
    )

pub returns : goal.returns
returns c =
    let l = c.loop-j in
    as_mapped c.args.z _ l.invariant.0 l.s l.invariant.1 (λ u. sym (down_zero (wave_step c.args.odd u) l.j (l.invariant.0 u) (omega (arith, c.loop-j-test.false))) ∙ l.invariant.2 u)
