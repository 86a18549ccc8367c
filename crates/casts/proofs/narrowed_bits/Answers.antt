-- `casts::narrowed_bits` meets its contract, by the laws of proofs/Narrowing.antt, one for each range of the exponent's field. Assumes nothing.
use Rattle.std.proofs.Common.{◌^◌, ◌≤◌, ◌≡◌, ℕ, ◌+◌, ◌-◌, ◌*◌, ◌/◌, ◌%◌, ◌<◌, sym, ap, ◌∙◌, subst, inl, inr, eq-or-lt_of_le, arith, mod-eq_of_lt, one-mul}
use lib.Pow.{pow-lt}
use lib.Ieee.Nearest.{closest}
use Rattle.casts.specs.Cast.{Narrows}
use Rattle.casts.proofs.Narrowing.{narrows_inf, narrows_past, narrows_mid, narrows_low, narrows_tiny}
use Rattle.casts.proofs.narrowed_bits.Goals as goal

pub returns-then-field-lt-LEAST_FIELD : goal.returns-then-field-lt-LEAST_FIELD
returns-then-field-lt-LEAST_FIELD c = narrows_tiny c.args.m c.if-field-lt-LEAST_FIELD.true

pub returns-then-field-ge-INFINITE_FIELD : goal.returns-then-field-ge-INFINITE_FIELD
returns-then-field-ge-INFINITE_FIELD c = elim (eq-or-lt_of_le c.requires) [
  | inl e ↦ subst (λ (m : ℕ). Narrows m 2139095040) (sym e) narrows_inf
  | inr l ↦ narrows_past c.args.m (omega (arith, c.if-field-ge-INFINITE_FIELD.true)) l
]

low : (m r : ℕ) → r ≡ closest (4503599627370496 + m % 4503599627370496) (1 * 2 ^ (926 - m / 4503599627370496) % 18446744073709551616) → 873 ≤ m / 4503599627370496 → m / 4503599627370496 < 897 → Narrows m r
low m r e a b = subst (λ (r : ℕ). Narrows m r) (sym (e ∙ ap (closest (4503599627370496 + m % 4503599627370496)) (power (926 - m / 4503599627370496) (omega arith)))) (narrows_low m a b)
  where
    power : (k : ℕ) → k < 64 → 1 * 2 ^ k % 18446744073709551616 ≡ 2 ^ k
    power k h = ap (λ (x : ℕ). x % 18446744073709551616) (one-mul (2 ^ k)) ∙ mod-eq_of_lt (pow-lt h)

pub overflow_cast-result : goal.overflow_cast-result
overflow_cast-result c = omega (arith, (low c.args.m c.closest_over.result c.closest_over.ensures c.if-field-lt-LEAST_FIELD.false c.if-field-lt-FIRST_IN_PLACE.true).small)

pub returns-then-field-lt-FIRST_IN_PLACE : goal.returns-then-field-lt-FIRST_IN_PLACE
returns-then-field-lt-FIRST_IN_PLACE c = low c.args.m c.closest_over.result c.closest_over.ensures c.if-field-lt-LEAST_FIELD.false c.if-field-lt-FIRST_IN_PLACE.true

pub returns : goal.returns
returns c = subst (λ (q : ℕ). Narrows c.args.m ((c.args.m / 4503599627370496 - 897) * 8388608 + q)) (sym c.closest_over-2.ensures) (narrows_mid c.args.m c.if-field-lt-FIRST_IN_PLACE.false (omega (arith, c.if-field-ge-INFINITE_FIELD.false)))
