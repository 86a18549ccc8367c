-- A fraction rounded, as a bit pattern: `round` keeps q units of 2 ^ j smallest values, and its pattern is j * hid + q, also where q carries. Assumes nothing.
use Rattle.std.proofs.Common.{◌≡◌, ℕ, suc, ◌+◌, ◌-◌, ◌*◌, ◌/◌, ◌%◌, ◌^◌, ◌<◌, ◌≤◌, Bool, ltb, ◌⊎◌, sym, ap, ◌∙◌, subst, inl, inr, le_trans, le_of_eq, lt_of_lt_of_le, mul_assoc, mul_comm, div-lt_iff_lt-mul, mul-pos, le-div_iff_mul-le, arith, pow_pos, pow-add}
use Prim.Native.Nat.{compare}
use lib.Arith.{le→nltb}
use lib.Ieee.{Float, inf, Format, prec, low, size, odd, units, round, hid, of_bits}
use lib.Ieee.Digits.{size-le}
use lib.Ieee.Fits.{core, round_is, round-fits, nearest-le}
use lib.Ieee.Bits.{cond_no}
use lib.Ieee.Exact.{HasValue, units_val}
use lib.Ieee.Nearest.{closest, nearest-ge}
use lib.Ieee.Scale.{overflow}
use Rattle.casts.specs.Cast.{signed}
use Rattle.casts.proofs.Pattern.{drops, two_pos, writes}

over : (f : Format) (s : Bool) (q j : ℕ) → overflow f ≤ q * 2 ^ j → units f s q j ≡ inf s
unfolding units
over f s q j h = cond_no (ltb (q * 2 ^ j) (overflow f)) (odd (suc (prec f)) s q j (low f)) (inf s) (le→nltb (q * 2 ^ j) (overflow f) h)

-- a / c lies where the format drops j digits
module _ (f : Format) (s : Bool) (a c j : ℕ) (C : 0 < c) (hi : a * 2 ^ low f < 2 ^ (prec f + j) * c) (lo : (j ≡ 0) ⊎ (2 ^ (prec f - 1 + j) * c ≤ a * 2 ^ low f)) where
  drop_is : size (a * 2 ^ low f / c) - prec f ≡ j
  drop_is = elim lo [
    | inl z ↦ few (size (a * 2 ^ low f / c)) (prec f) j z (size-le (a * 2 ^ low f / c) (prec f + j) ((div-lt_iff_lt-mul C).1 hi))
    | inr g ↦ drops (prec f) (a * 2 ^ low f / c) j (two_pos f) ((le-div_iff_mul-le C).1 g) ((div-lt_iff_lt-mul C).1 hi)
  ]
    where
      few : (z p j : ℕ) → j ≡ 0 → z ≤ p + j → z - p ≡ j
      few z p j e h = omega arith

  pub round_at : round f s a c ≡ units f s (closest (a * 2 ^ low f) (c * 2 ^ j)) j
  round_at = round_is f s a c ∙ ap (λ (k : ℕ). core f s (a * 2 ^ low f) c k) drop_is

  again : (p : ℕ) → 2 ^ (p + j) * c ≡ 2 ^ p * (c * 2 ^ j)
  again p = ap (λ (x : ℕ). x * c) (pow-add 2 p j) ∙ mul_assoc (2 ^ p) (2 ^ j) c ∙ ap (λ (x : ℕ). 2 ^ p * x) (mul_comm (2 ^ j) c)

  u_pos : 0 < c * 2 ^ j
  u_pos = mul-pos C (pow_pos j)

  pub kept_le : closest (a * 2 ^ low f) (c * 2 ^ j) ≤ 2 ^ prec f
  kept_le =
      le_trans (nearest-le (a * 2 ^ low f / (c * 2 ^ j)) (compare (a * 2 ^ low f % (c * 2 ^ j) * 2) (c * 2 ^ j)))
      ((div-lt_iff_lt-mul u_pos).1 (lt_of_lt_of_le hi (le_of_eq (again (prec f)))))

  pub kept_lead : (j ≡ 0) ⊎ (hid f ≤ closest (a * 2 ^ low f) (c * 2 ^ j))
  kept_lead = elim lo [
    | inl z ↦ inl z
    | inr g ↦
        inr (le_trans ((le-div_iff_mul-le u_pos).1 (le_trans (le_of_eq (sym (again (prec f - 1)))) g)) (nearest-ge (a * 2 ^ low f / (c * 2 ^ j)) (compare (a * 2 ^ low f % (c * 2 ^ j) * 2) (c * 2 ^ j))))
  ]

  pub round_bits : closest (a * 2 ^ low f) (c * 2 ^ j) * 2 ^ j < overflow f → of_bits f (signed f s (j * hid f + closest (a * 2 ^ low f) (c * 2 ^ j))) ≡ round f s a c
  round_bits h =
      writes f (round f s a c) s (closest (a * 2 ^ low f) (c * 2 ^ j)) j (round-fits f s a c)
      (subst (λ (v : Float). HasValue v s (closest (a * 2 ^ low f) (c * 2 ^ j) * 2 ^ j) (2 ^ low f)) (sym round_at) (units_val f s (closest (a * 2 ^ low f) (c * 2 ^ j)) j h)) kept_le kept_lead

  pub round_over : overflow f ≤ closest (a * 2 ^ low f) (c * 2 ^ j) * 2 ^ j → round f s a c ≡ inf s
  round_over h = round_at ∙ over f s (closest (a * 2 ^ low f) (c * 2 ^ j)) j h
