-- An f64's pattern that has the field of a normal f32 and no digit below an f32's is of a value that an f32 has. Assumes nothing.
use Rattle.std.proofs.Common.{◌≡◌, ℕ, suc, ◌+◌, ◌-◌, ◌*◌, ◌/◌, ◌%◌, ◌^◌, ◌<◌, ◌≤◌, Bool, true, false, T, ◌⊎◌, sym, ap, ◌∙◌, subst, inr, mul_assoc, zero-add, arith, pow_pos, pow-add}
use native.Mathlib.Decide.{dec_lt}
use lib.Ieee.{Float, binary32, binary64, fits, of_bits}
use lib.Ieee.Fits.{fits_widens}
use lib.Ieee.Bits.{of_bits-fits}
use lib.Ieee.Exact.{HasValue}
use Rattle.casts.specs.Cast.{signed}
use Rattle.casts.proofs.Pattern.{reads_mid, at_unit, writes}

-- D * 2 ^ E units of 2 ^ -149 are q * 2 ^ j units of 2 ^ -1074
module _ (s : Bool) (m D E q j : ℕ) where
  carried : HasValue (of_bits binary32 (signed binary32 s m)) s (D * 2 ^ E) (2 ^ 149) → q * 2 ^ j * 2 ^ 149 ≡ D * 2 ^ E * 2 ^ 1074 → q ≤ 2 ^ 53 → (j ≡ 0) ⊎ (4503599627370496 ≤ q)
      → of_bits binary64 (signed binary64 s (j * 4503599627370496 + q)) ≡ of_bits binary32 (signed binary32 s m)
  carried v e a b =
      writes binary64 (of_bits binary32 (signed binary32 s m)) s q j (fits_widens (of_bits binary32 (signed binary32 s m)) (of_bits-fits binary32 (signed binary32 s m)))
      (at_unit (of_bits binary32 (signed binary32 s m)) s (D * 2 ^ E) (2 ^ 149) (q * 2 ^ j) (2 ^ 1074) (pow_pos 149) e v) a b

-- powers of two together: q = D * 2 ^ i
shift : (D i j k : ℕ) → D * 2 ^ i * 2 ^ j * 2 ^ k ≡ D * 2 ^ (i + j + k)
shift D i j k = ap (λ (x : ℕ). x * 2 ^ k) (mul_assoc D (2 ^ i) (2 ^ j)) ∙ mul_assoc D (2 ^ i * 2 ^ j) (2 ^ k) ∙ ap (λ (x : ℕ). D * x) (ap (λ (x : ℕ). x * 2 ^ k) (sym (pow-add 2 i j)) ∙ sym (pow-add 2 (i + j) k))

shift_two : (D i j : ℕ) → D * 2 ^ i * 2 ^ j ≡ D * 2 ^ (i + j)
shift_two D i j = mul_assoc D (2 ^ i) (2 ^ j) ∙ ap (λ (x : ℕ). D * x) (sym (pow-add 2 i j))

-- ---- a normal value, field and fraction moved as one number
widens : (s : Bool) (m : ℕ) → 8388608 ≤ m → m < 2139095040 → of_bits binary64 (signed binary64 s ((m + 7516192768) * 536870912)) ≡ of_bits binary32 (signed binary32 s m)
widens s m lo hi =
    let x = m / 8388608 - 1 in
    let D = 8388608 + m % 8388608 in
    ap (λ (y : ℕ). of_bits binary64 (signed binary64 s y)) (again m lo)
    ∙ carried s m D x (D * 2 ^ 29) (x + 896) (reads_mid binary32 s m x (under m hi) (field m lo) (field_lt m lo hi))
    (shift D 29 (x + 896) 149 ∙ ap (λ (y : ℕ). D * 2 ^ y) (places x) ∙ sym (shift_two D x 1074)) (digits m) (inr (lead m))
  where
    again : (m : ℕ) → 8388608 ≤ m → (m + 7516192768) * 536870912 ≡ (m / 8388608 - 1 + 896) * 4503599627370496 + (8388608 + m % 8388608) * 536870912
    again m h = omega arith

    under : (m : ℕ) → m < 2139095040 → m < 2147483648
    under m h = omega arith

    field : (m : ℕ) → 8388608 ≤ m → m / 8388608 ≡ suc (m / 8388608 - 1)
    field m h = omega arith

    field_lt : (m : ℕ) → 8388608 ≤ m → m < 2139095040 → suc (m / 8388608 - 1) < 255
    field_lt m h k = omega arith

    places : (x : ℕ) → 29 + (x + 896) + 149 ≡ x + 1074
    places x = omega arith

    digits : (m : ℕ) → (8388608 + m % 8388608) * 536870912 ≤ 9007199254740992
    digits m = omega arith

    lead : (m : ℕ) → 4503599627370496 ≤ (8388608 + m % 8388608) * 536870912
    lead m = omega arith

-- ---- a pattern with the field of a normal f32 and no digit below an f32's
placed : (s : Bool) (b : ℕ) → 897 ≤ b / 4503599627370496 → b / 4503599627370496 < 1151 → b % 536870912 ≡ 0 → T (fits binary32 (of_bits binary64 (signed binary64 s b)))
placed s b lo hi z =
    let m = b / 536870912 - 7516192768 in
    let least : 8388608 ≤ m = omega arith in
    let most : m < 2139095040 = omega arith in
    let back : (m + 7516192768) * 536870912 ≡ b = omega arith in
    let same = subst (λ (r : ℕ). of_bits binary64 (signed binary64 s r) ≡ of_bits binary32 (signed binary32 s m)) back (widens s m least most) in
    subst (λ (v : Float). T (fits binary32 v)) (sym same) (of_bits-fits binary32 (signed binary32 s m))

pub fits_short : (b : ℕ) → b < 18446744073709551616 → 897 ≤ b / 4503599627370496 % 2048 → b / 4503599627370496 % 2048 < 1151 → b % 536870912 ≡ 0 → T (fits binary32 (of_bits binary64 b))
fits_short b u lo hi z = elim (dec_lt b 9223372036854775808) [
  | yes h ↦ subst (λ (r : ℕ). T (fits binary32 (of_bits binary64 r))) (zero-add b) (placed false b (omega arith) (omega arith) z)
  | no h ↦
      let m = b - 9223372036854775808 in
      let back : 9223372036854775808 + m ≡ b = omega arith in
      subst (λ (r : ℕ). T (fits binary32 (of_bits binary64 r))) back (placed true m (omega arith) (omega arith) (omega arith))
]
