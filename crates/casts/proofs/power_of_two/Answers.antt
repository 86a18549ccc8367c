-- `casts::power_of_two` meets its contract, by the laws of proofs/Powers.antt. k and k + 1023 are read back from their bits, which `to_z-of_z` undoes. Assumes nothing.
use Rattle.std.proofs.Common.{◌≡◌, ℤ, ap, ◌∙◌, sym, subst, pos, negsuc, ◌+ℤ◌, arith, w64, to_z, of_z, SFits}
use lib.IntN.{nat_abs}
use Rattle.std.specs.Int.{int_max, int_min}
use mir.ValLaws.{to_z-of_z, to_z_pos}
use Rattle.casts.specs.Cast.{two_to}
use Rattle.casts.proofs.Powers.{Biased, held, biased_held, clamped, power, no_nan}
use Rattle.casts.proofs.power_of_two.Goals as goal

-- from −1022 to 1023 no step on the way to the field of 2^k wraps
field_is : (k : ℤ) (b : Biased k) → SFits w64 k → nat_abs (to_z w64 (of_z w64 (to_z w64 (of_z w64 k) +ℤ pos 1023))) ≡ b.field
field_is k b f =
    ap (λ (z : ℤ). nat_abs (to_z w64 (of_z w64 (z +ℤ pos 1023)))) (to_z-of_z w64 k f)
    ∙ ap (λ (z : ℤ). nat_abs (to_z w64 (of_z w64 z))) b.sum
    ∙ ap nat_abs (to_z_pos w64 b.field (omega (arith, b.under)))

held_is : (k r : ℤ) → SFits w64 k → r ≡ int_max (negsuc 1021) (int_min (to_z w64 (of_z w64 k)) (pos 1023)) → r ≡ held k
held_is k r f e = (rw (to_z-of_z w64 k f) at e) ∙ clamped k

pub float_from_bits-result : goal.float_from_bits-result
float_from_bits-result c =
    let b = subst Biased (sym (held_is c.args.k c.clamp.result c.ranges.k c.clamp.ensures.value)) (biased_held c.args.k) in
    rw (field_is c.clamp.result b (record { sfits = c.clamp.type_inv })) (no_nan b.field b.under)

pub returns : goal.returns
unfolding two_to
returns c =
    let e = held_is c.args.k c.clamp.result c.ranges.k c.clamp.ensures.value in
    let b = subst Biased (sym e) (biased_held c.args.k) in
    rw (field_is c.clamp.result b (record { sfits = c.clamp.type_inv }), power b.field b.above b.under, b.back, e)
