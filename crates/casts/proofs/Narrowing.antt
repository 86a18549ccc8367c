-- An f64's pattern, turned into that of the nearest f32. Assumes nothing.
use Rattle.std.proofs.Common.{◌≡◌, ℕ, zero, suc, ◌+◌, ◌-◌, ◌*◌, ◌/◌, ◌%◌, ◌^◌, ◌<◌, ◌≤◌, Bool, true, false, not, T, ltb, ◌⊎◌, sym, refl, ap, ◌∙◌, subst, inl, inr, suc-le-suc, le_trans, le_of_eq, lt_of_lt_of_le, le_of_suc-le-suc, lt_of_le_of_lt, le_of_lt, lt_irrefl, mul-le-mul_right, mul_assoc, mul-le-mul, eq-or-lt_of_le, mul-pos, zero-add, mul-one, arith, lit<, lit≤, ltb→lt, nltb→le, pow_pos, pow_mono, pow-add, shl_lt}
use lib.Arith.{le-zero}
use lib.Ieee.{Float, nan, inf, fin, binary32, binary64, up, down, round, of_bits}
use lib.Ieee.Fits.{down_pos}
use lib.Ieee.Exact.{HasValue}
use lib.Ieee.Nearest.{closest, closest_same, closest_mono}
use lib.Ieee.Scale.{round_same}
use Rattle.casts.specs.Cast.{narrowed, signed, Narrows}
use Rattle.casts.proofs.Pattern.{reads_low, reads_mid, reads_inf}
use Rattle.casts.proofs.Rounded.{round_bits, round_over, kept_le}

-- ---- `narrowed` sees only the value
narrowed_at : (x : Float) (s : Bool) (a c : ℕ) → 0 < c → HasValue x s a c → narrowed x ≡ round binary32 s a c
unfolding narrowed
narrowed_at nan s a c C h = absurd h
narrowed_at (inf t) s a c C h = absurd h
narrowed_at (fin t m e) s a c C h = round_same binary32 t (m * up e) (down e) a c (down_pos e) C h.1 ∙ ap (λ (u : Bool). round binary32 u a c) h.0

narrowed_inf : (s : Bool) → narrowed (inf s) ≡ inf s
unfolding narrowed
narrowed_inf s = refl

shift_two : (D i j : ℕ) → D * 2 ^ i * 2 ^ j ≡ D * 2 ^ (i + j)
shift_two D i j = mul_assoc D (2 ^ i) (2 ^ j) ∙ ap (λ (x : ℕ). D * x) (sym (pow-add 2 i j))

-- ---- a value whose nearest f32 is normal: D of 53 digits, times 2 ^ (j + 896 - 1074)
module _ (s : Bool) (D j : ℕ) (lo : 4503599627370496 ≤ D) (hi : D < 9007199254740992) where
  num_is : D * 2 ^ (j + 896) * 2 ^ 149 ≡ D * 2 ^ (j + 1045)
  num_is = shift_two D (j + 896) 149 ∙ ap (λ (x : ℕ). D * 2 ^ x) (places j)
    where
      places : (j : ℕ) → j + 896 + 149 ≡ j + 1045
      places j = omega arith

  mid_hi : D * 2 ^ (j + 896) * 2 ^ 149 < 2 ^ (24 + j) * 2 ^ 1074
  mid_hi =
      subst (λ (x : ℕ). x < 2 ^ (24 + j) * 2 ^ 1074) (sym num_is)
      (lt_of_lt_of_le (shl_lt 53 (j + 1045) hi) (le_of_eq (ap (λ (x : ℕ). 2 ^ x) (places j) ∙ pow-add 2 (24 + j) 1074)))
    where
      places : (j : ℕ) → 53 + (j + 1045) ≡ 24 + j + 1074
      places j = omega arith

  mid_lo : 2 ^ (23 + j) * 2 ^ 1074 ≤ D * 2 ^ (j + 896) * 2 ^ 149
  mid_lo =
      subst (λ (x : ℕ). 2 ^ (23 + j) * 2 ^ 1074 ≤ x) (sym num_is)
      (le_trans (le_of_eq (sym (pow-add 2 (23 + j) 1074) ∙ ap (λ (x : ℕ). 2 ^ x) (places j) ∙ pow-add 2 52 (j + 1045))) (mul-le-mul_right (2 ^ (j + 1045)) lo))
    where
      places : (j : ℕ) → 23 + j + 1074 ≡ 52 + (j + 1045)
      places j = omega arith

  mid_kept : closest (D * 2 ^ (j + 896) * 2 ^ 149) (2 ^ 1074 * 2 ^ j) ≡ closest D (2 ^ 29)
  mid_kept =
      closest_same (D * 2 ^ (j + 896) * 2 ^ 149) (2 ^ 1074 * 2 ^ j) D (2 ^ 29) (mul-pos (pow_pos 1074) (pow_pos j)) (pow_pos 29)
      (ap (λ (x : ℕ). x * 2 ^ 29) num_is ∙ shift_two D (j + 1045) 29 ∙ ap (λ (x : ℕ). D * 2 ^ x) (places j) ∙ ap (λ (x : ℕ). D * x) (pow-add 2 1074 j))
    where
      places : (j : ℕ) → j + 1045 + 29 ≡ 1074 + j
      places j = omega arith

  mid_le : closest D (2 ^ 29) ≤ 16777216
  mid_le = closest_mono D (2 ^ 29) (2 ^ 53) (2 ^ 29) (pow_pos 29) (pow_pos 29) (mul-le-mul_right (2 ^ 29) (le_of_lt hi))

  mid_lead : 8388608 ≤ closest D (2 ^ 29)
  mid_lead = closest_mono (2 ^ 52) (2 ^ 29) D (2 ^ 29) (pow_pos 29) (pow_pos 29) (mul-le-mul_right (2 ^ 29) lo)

  mid_under : closest D (2 ^ 29) * 2 ^ j < 2 ^ 277 → of_bits binary32 (signed binary32 s (j * 8388608 + closest D (2 ^ 29))) ≡ round binary32 s (D * 2 ^ (j + 896)) (2 ^ 1074)
  mid_under h =
      subst (λ (q : ℕ). of_bits binary32 (signed binary32 s (j * 8388608 + q)) ≡ round binary32 s (D * 2 ^ (j + 896)) (2 ^ 1074)) mid_kept
      (round_bits binary32 s (D * 2 ^ (j + 896)) (2 ^ 1074) j (pow_pos 1074) mid_hi (inr mid_lo) (subst (λ (q : ℕ). q * 2 ^ j < 2 ^ 277) (sym mid_kept) h))

  mid_over : 2 ^ 277 ≤ closest D (2 ^ 29) * 2 ^ j → round binary32 s (D * 2 ^ (j + 896)) (2 ^ 1074) ≡ inf s
  mid_over h = round_over binary32 s (D * 2 ^ (j + 896)) (2 ^ 1074) j (pow_pos 1074) mid_hi (inr mid_lo) (subst (λ (q : ℕ). 2 ^ 277 ≤ q * 2 ^ j) (sym mid_kept) h)

  -- an overflow at the largest exponent carries into the infinity's pattern
  carries : j ≤ 253 → 2 ^ 277 ≤ closest D (2 ^ 29) * 2 ^ j → j * 8388608 + closest D (2 ^ 29) ≡ 2139095040
  carries l h = last j (closest D (2 ^ 29)) (at_last (eq-or-lt_of_le l)) (full (at_last (eq-or-lt_of_le l)) (eq-or-lt_of_le mid_le))
    where
      at_last : (j ≡ 253) ⊎ (j < 253) → j ≡ 253
      at_last (inl e) = e
      at_last (inr g) = absurd (lt_irrefl (2 ^ 277) (lt_of_le_of_lt h (lt_of_le_of_lt (mul-le-mul mid_le (pow_mono (le_of_suc-le-suc g))) (lit< tt))))

      full : j ≡ 253 → (closest D (2 ^ 29) ≡ 16777216) ⊎ (closest D (2 ^ 29) < 16777216) → closest D (2 ^ 29) ≡ 16777216
      full e (inl q) = q
      full e (inr g) = absurd (lt_irrefl (2 ^ 277) (lt_of_le_of_lt h (subst (λ (x : ℕ). closest D (2 ^ 29) * 2 ^ j < 2 ^ x) (ap (λ (x : ℕ). 24 + x) e) (shl_lt 24 j g))))

      last : (j q : ℕ) → j ≡ 253 → q ≡ 16777216 → j * 8388608 + q ≡ 2139095040
      last j q e f = omega arith

  mid_bits : j ≤ 253 → of_bits binary32 (signed binary32 s (j * 8388608 + closest D (2 ^ 29))) ≡ round binary32 s (D * 2 ^ (j + 896)) (2 ^ 1074)
  mid_bits l = go (ltb (closest D (2 ^ 29) * 2 ^ j) (2 ^ 277)) (ltb→lt (closest D (2 ^ 29) * 2 ^ j) (2 ^ 277)) (nltb→le (closest D (2 ^ 29) * 2 ^ j) (2 ^ 277))
    where
      go : (b : Bool) → (T b → closest D (2 ^ 29) * 2 ^ j < 2 ^ 277) → (T (not b) → 2 ^ 277 ≤ closest D (2 ^ 29) * 2 ^ j)
          → of_bits binary32 (signed binary32 s (j * 8388608 + closest D (2 ^ 29))) ≡ round binary32 s (D * 2 ^ (j + 896)) (2 ^ 1074)
      go true h k = mid_under (h tt)
      go false h k = ap (λ (r : ℕ). of_bits binary32 (signed binary32 s r)) (carries l (k tt)) ∙ reads_inf binary32 s ∙ sym (mid_over (k tt))

  past : 254 ≤ j → round binary32 s (D * 2 ^ (j + 896)) (2 ^ 1074) ≡ inf s
  past l = mid_over (le_trans (le_of_eq (pow-add 2 23 254)) (mul-le-mul mid_lead (pow_mono l)))

-- ---- a value whose nearest f32 is below the normal ones, or 0: D of at most 53 digits, times 2 ^ (E - 1074)
module _ (s : Bool) (D E : ℕ) (hi : D < 9007199254740992) (few : E ≤ 895) where
  low_hi : D * 2 ^ E * 2 ^ 149 < 2 ^ (24 + 0) * 2 ^ 1074
  low_hi = subst (λ (x : ℕ). x < 2 ^ (24 + 0) * 2 ^ 1074) (sym (shift_two D E 149)) (lt_of_lt_of_le (shl_lt 53 (E + 149) hi) (pow_mono (places E few)))
    where
      places : (E : ℕ) → E ≤ 895 → 53 + (E + 149) ≤ 1098
      places E h = omega arith

  low_le : (q : ℕ) → closest (D * 2 ^ E * 2 ^ 149) (2 ^ 1074) ≡ q → q ≤ 16777216
  low_le q e = subst (λ (x : ℕ). x ≤ 16777216) e (kept_le binary32 s (D * 2 ^ E) (2 ^ 1074) 0 (pow_pos 1074) low_hi (inl refl))

  low_bits : (q : ℕ) → closest (D * 2 ^ E * 2 ^ 149) (2 ^ 1074) ≡ q → of_bits binary32 (signed binary32 s q) ≡ round binary32 s (D * 2 ^ E) (2 ^ 1074)
  low_bits q e =
      ap (λ (r : ℕ). of_bits binary32 (signed binary32 s r)) (sym (zero-add q))
      ∙ subst (λ (x : ℕ). of_bits binary32 (signed binary32 s (0 * 8388608 + x)) ≡ round binary32 s (D * 2 ^ E) (2 ^ 1074)) e
      (round_bits binary32 s (D * 2 ^ E) (2 ^ 1074) 0 (pow_pos 1074) low_hi (inl refl)
      (subst (λ (x : ℕ). x * 2 ^ 0 < 2 ^ 277) (sym e) (lt_of_le_of_lt (le_of_eq (mul-one q)) (lt_of_le_of_lt (low_le q e) (lit< tt)))))

  low_kept : (k : ℕ) → E + k ≡ 925 → closest (D * 2 ^ E * 2 ^ 149) (2 ^ 1074) ≡ closest D (2 ^ k)
  low_kept k h =
      closest_same (D * 2 ^ E * 2 ^ 149) (2 ^ 1074) D (2 ^ k) (pow_pos 1074) (pow_pos k)
      (ap (λ (x : ℕ). x * 2 ^ k) (shift_two D E 149) ∙ shift_two D (E + 149) k ∙ ap (λ (x : ℕ). D * 2 ^ x) (places E k h))
    where
      places : (E k : ℕ) → E + k ≡ 925 → E + 149 + k ≡ 1074
      places E k h = omega arith

  tiny_kept : E ≤ 871 → closest (D * 2 ^ E * 2 ^ 149) (2 ^ 1074) ≡ 0
  tiny_kept l =
      le-zero (closest_mono (D * 2 ^ E * 2 ^ 149) (2 ^ 1074) 9007199254740991 (2 ^ 54) (pow_pos 1074) (pow_pos 54)
      (le_trans (le_of_eq (ap (λ (x : ℕ). x * 2 ^ 54) (shift_two D E 149) ∙ shift_two D (E + 149) 54)) (mul-le-mul (le_of_suc-le-suc hi) (pow_mono (places E l)))))
    where
      places : (E : ℕ) → E ≤ 871 → E + 149 + 54 ≤ 1074
      places E h = omega arith

-- ---- the five ranges of m
digits_lo : (m : ℕ) → 4503599627370496 ≤ 4503599627370496 + m % 4503599627370496
digits_lo m = omega arith

digits_hi : (m : ℕ) → 4503599627370496 + m % 4503599627370496 < 9007199254740992
digits_hi m = omega arith

-- m with an exponent's field of x + 1
narrowed_mid : (s : Bool) (m x : ℕ) → m / 4503599627370496 ≡ suc x → x < 2046
    → narrowed (of_bits binary64 (signed binary64 s m)) ≡ round binary32 s ((4503599627370496 + m % 4503599627370496) * 2 ^ x) (2 ^ 1074)
narrowed_mid s m x e h =
    narrowed_at (of_bits binary64 (signed binary64 s m)) s ((4503599627370496 + m % 4503599627370496) * 2 ^ x) (2 ^ 1074) (pow_pos 1074)
    (reads_mid binary64 s m x (under m x e h) e (suc-le-suc h))
  where
    under : (m x : ℕ) → m / 4503599627370496 ≡ suc x → x < 2046 → m < 9223372036854775808
    under m x e h = omega arith

pub narrows_inf : Narrows 9218868437227405312 2139095040
narrows_inf = record { small = omega arith; same = λ s. reads_inf binary32 s ∙ sym (narrowed_inf s) ∙ sym (ap narrowed (reads_inf binary64 s)) }

pub narrows_past : (m : ℕ) → 1151 ≤ m / 4503599627370496 → m < 9218868437227405312 → Narrows m 2139095040
narrows_past m lo hi =
    let j = m / 4503599627370496 - 897 in
    record {
      small = omega arith;
      same = λ s. reads_inf binary32 s ∙ sym (narrowed_mid s m (j + 896) (field m lo) (in_range_lem m hi) ∙ past s (4503599627370496 + m % 4503599627370496) j (digits_lo m) (digits_hi m) (far m lo));
    }
  where
    field : (m : ℕ) → 1151 ≤ m / 4503599627370496 → m / 4503599627370496 ≡ suc (m / 4503599627370496 - 897 + 896)
    field m h = omega arith

    in_range_lem : (m : ℕ) → m < 9218868437227405312 → m / 4503599627370496 - 897 + 896 < 2046
    in_range_lem m h = omega arith

    far : (m : ℕ) → 1151 ≤ m / 4503599627370496 → 254 ≤ m / 4503599627370496 - 897
    far m h = omega arith

pub narrows_mid : (m : ℕ) → 897 ≤ m / 4503599627370496 → m / 4503599627370496 < 1151
    → Narrows m ((m / 4503599627370496 - 897) * 8388608 + closest (4503599627370496 + m % 4503599627370496) (2 ^ 29))
narrows_mid m lo hi =
    let j = m / 4503599627370496 - 897 in
    let D = 4503599627370496 + m % 4503599627370496 in
    record {
      small = bound (m / 4503599627370496) (closest D (2 ^ 29)) hi (mid_le true D j (digits_lo m) (digits_hi m));
      same = λ s. mid_bits s D j (digits_lo m) (digits_hi m) (near (m / 4503599627370496) hi) ∙ sym (narrowed_mid s m (j + 896) (field (m / 4503599627370496) lo) (in_range_lem (m / 4503599627370496) hi));
    }
  where
    bound : (x q : ℕ) → x < 1151 → q ≤ 16777216 → (x - 897) * 8388608 + q ≤ 2139095040
    bound x q h k = omega arith

    near : (x : ℕ) → x < 1151 → x - 897 ≤ 253
    near x h = omega arith

    field : (x : ℕ) → 897 ≤ x → x ≡ suc (x - 897 + 896)
    field x h = omega arith

    in_range_lem : (x : ℕ) → x < 1151 → x - 897 + 896 < 2046
    in_range_lem x h = omega arith

pub narrows_low : (m : ℕ) → 873 ≤ m / 4503599627370496 → m / 4503599627370496 < 897 → Narrows m (closest (4503599627370496 + m % 4503599627370496) (2 ^ (926 - m / 4503599627370496)))
narrows_low m lo hi =
    let x = m / 4503599627370496 - 1 in
    let D = 4503599627370496 + m % 4503599627370496 in
    let k = 926 - m / 4503599627370496 in
    let kept : closest (D * 2 ^ x * 2 ^ 149) (2 ^ 1074) ≡ closest D (2 ^ k) = low_kept true D x (digits_hi m) (range (m / 4503599627370496) hi) k (places (m / 4503599627370496) lo hi) in
    record {
      small = le_trans (low_le true D x (digits_hi m) (range (m / 4503599627370496) hi) (closest D (2 ^ k)) kept) (lit≤ tt);
      same = λ s. low_bits s D x (digits_hi m) (range (m / 4503599627370496) hi) (closest D (2 ^ k)) kept ∙ sym (narrowed_mid s m x (field (m / 4503599627370496) lo) (in_range_lem (m / 4503599627370496) hi));
    }
  where
    range : (x : ℕ) → x < 897 → x - 1 ≤ 895
    range x h = omega arith

    places : (x : ℕ) → 873 ≤ x → x < 897 → x - 1 + (926 - x) ≡ 925
    places x h k = omega arith

    field : (x : ℕ) → 873 ≤ x → x ≡ suc (x - 1)
    field x h = omega arith

    in_range_lem : (x : ℕ) → x < 897 → x - 1 < 2046
    in_range_lem x h = omega arith

pub narrows_tiny : (m : ℕ) → m / 4503599627370496 < 873 → Narrows m 0
narrows_tiny m h = record { small = omega arith; same = λ s. sym (go s (m / 4503599627370496) refl h) }
  where
    under : (m : ℕ) → m / 4503599627370496 < 873 → m < 9223372036854775808
    under m h = omega arith

    fraction : (m : ℕ) → m % 4503599627370496 < 9007199254740992
    fraction m = omega arith

    less : (x : ℕ) → suc x < 873 → x ≤ 871
    less x h = omega arith

    far : (x : ℕ) → x ≤ 871 → x ≤ 895
    far x h = omega arith

    zero_le' : (x : ℕ) → 0 ≤ x
    zero_le' x = omega arith

    in_range_lem : (x : ℕ) → suc x < 873 → x < 2046
    in_range_lem x h = omega arith

    go : (s : Bool) (x : ℕ) → m / 4503599627370496 ≡ x → x < 873 → narrowed (of_bits binary64 (signed binary64 s m)) ≡ of_bits binary32 (signed binary32 s 0)
    go s zero e l =
        narrowed_at (of_bits binary64 (signed binary64 s m)) s (m % 4503599627370496 * 2 ^ 0) (2 ^ 1074) (pow_pos 1074) (reads_low binary64 s m (under m h) e)
        ∙ sym (low_bits s (m % 4503599627370496) 0 (fraction m) (zero_le' 895) 0 (tiny_kept s (m % 4503599627370496) 0 (fraction m) (zero_le' 895) (zero_le' 871)))
    go s (suc x) e l =
        let D = 4503599627370496 + m % 4503599627370496 in
        narrowed_mid s m x e (in_range_lem x l)
        ∙ sym (low_bits s D x (digits_hi m) (far x (less x l)) 0 (tiny_kept s D x (digits_hi m) (far x (less x l)) (less x l)))
