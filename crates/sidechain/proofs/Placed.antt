-- A whole number below 2^32 put into the last digits of 2^52, less 2^52, is that number as a float. Assumes nothing.
use Rattle.std.proofs.Common.{◌≡◌, ℕ, suc, ◌+◌, ◌-◌, ◌*◌, ◌/◌, ◌%◌, ◌^◌, ◌<◌, ◌≤◌, true, false, pos, sym, refl, subst, lt_of_lt_of_le, add-mul, zero-add, mul-one, mul_right_comm, arith, pow_pos, pow_mono, shl_lt, le-ltb}
use lib.Count.{count_trailing_zeros}
use lib.Ieee.{Float, nan, inf, fin, binary64, up, down, prec, emax, low, round, sum, add, sub, neg, of_int, of_bits, of_fields, odd}
use lib.Ieee.Exact.{HasValue, round_exact}
use lib.Ieee.Fits.{down_pos, sub-fits, of_int-fits}
use lib.Ieee.Back.{round_whole, whole_unique}
use Rattle.casts.specs.Arithmetic.{◌⊖◌, whole}
use Rattle.casts.proofs.Pattern.{reads_mid, at_unit}

-- n times d over d
share : (n d : ℕ) → n < 4294967296 → 0 < d → HasValue (round binary64 false (n * d) d) false n 1
share n d h p =
    let small : n < 2 ^ prec binary64 = omega arith in
    let wide : n < 2 ^ 1024 = lt_of_lt_of_le h (pow_mono {i = 32} {j = 1024} (omega arith)) in
    let fine : n * 2 ^ low binary64 < 2 ^ (low binary64 + suc (emax binary64)) = shl_lt 1024 1074 wide in
    let v = round_exact binary64 false (n * d) d n (low binary64) p small fine (mul_right_comm n d (2 ^ low binary64)) in
    at_unit (round binary64 false (n * d) d) false (n * d) d n 1 p (omega arith) v

difference : (n a d : ℕ) → a ≡ (4503599627370496 + n) * d → sum binary64 false a true (4503599627370496 * d) d ≡ round binary64 false (n * d) d
unfolding sum
difference n a d e =
    let parts = add-mul 4503599627370496 n d in
    let left : a - 4503599627370496 * d ≡ n * d = omega arith in
    rw (le-ltb a (4503599627370496 * d) (omega arith), left)

less : (n : ℕ) (x : Float) → n < 4294967296 → HasValue x false (4503599627370496 + n) 1 → HasValue (x ⊖ fin false 1 (pos 52)) false n 1
unfolding sub add neg
less n nan h v = absurd v
less n (inf s) h v = absurd v
less n (fin t m e) h v = rw (v.0, mul-one (down e), difference n (m * up e * 1) (down e) v.1) (share n (down e) h (down_pos e))

placed : (n : ℕ) → n < 4294967296 → HasValue (of_bits binary64 (n + 4841369599423283200)) false (4503599627370496 + n) 1
placed n h =
    let b = n + 4841369599423283200 in
    let field : b / 4503599627370496 ≡ suc 1074 = omega arith in
    let digits : b % 4503599627370496 ≡ n = omega arith in
    let v = subst (λ (c : ℕ). HasValue (of_bits binary64 c) false ((4503599627370496 + b % 4503599627370496) * 2 ^ 1074) (2 ^ 1074)) (zero-add b) (reads_mid binary64 false b 1074 (omega arith) field (omega arith)) in
    at_unit (of_bits binary64 b) false _ (2 ^ 1074) (4503599627370496 + n) 1 (pow_pos 1074) (sym (mul-one _))
    (subst (λ (t : ℕ). HasValue (of_bits binary64 b) false ((4503599627370496 + t) * 2 ^ 1074) (2 ^ 1074)) digits v)

-- 2^52
unit : of_bits binary64 4841369599423283200 ≡ fin false 1 (pos 52)
unfolding of_bits of_fields odd count_trailing_zeros
unit = refl

whole_value : (n : ℕ) → n ≤ 9007199254740992 → HasValue (whole n) false n 1
unfolding of_int
whole_value n h = round_whole binary64 false n h

pub short_is : (n : ℕ) → n < 4294967296 → of_bits binary64 (n + 4841369599423283200) ⊖ of_bits binary64 4841369599423283200 ≡ whole n
short_is n h =
    rw unit
    (whole_unique binary64 (of_bits binary64 (n + 4841369599423283200) ⊖ fin false 1 (pos 52)) (whole n) false n (sub-fits binary64 _ _) (of_int-fits binary64 (pos n))
    (less n _ h (placed n h))
    (whole_value n (omega arith)))
