-- Inside 01's domain no bound of the definitions is met. EXP, size at most 64: k is a whole number of size at most 94, so that `to_signed` and `two_to` hold nothing back.
-- LN: every normal x above 0 is m·2^k with 1 ≤ m < 2. Assumes nothing.
use Rattle.std.proofs.Common.{◌≡◌, ℕ, zero, suc, ◌+◌, ◌-◌, ◌*◌, ◌/◌, ◌%◌, ◌^◌, ◌<◌, ◌≤◌, min, Bool, true, false, cond, ◌&&◌, T, ltb, pos, neg_ℤ, sym, refl, ap, ◌∙◌, subst, true≢false, mul_assoc, div-lt_iff_lt-mul, zero-add, mul-one, mul_right_comm, le_of_mul-le-mul_right, mul-div_cancel, arith, pow_pos, le-ltb}
use native.Mathlib.Nat.{pow-succ'}
use lib.Ieee.{Float, nan, inf, fin, binary64, up, down, odd, units, round, neg, sum, add, div, le, of_bits, of_int, to_bits, to_signed, fits}
use lib.Ieee.Fits.{down_pos, round_is}
use lib.Ieee.Exact.{HasValue}
use lib.Ieee.Back.{round_whole}
use lib.Ieee.Order.{round_mono}
use Rattle.casts.specs.Arithmetic.{◌⊕◌, ◌⊘◌, whole, half}
use Rattle.casts.specs.Cast.{floored, two_to, signed}
use Rattle.casts.specs.Order.{le_says, le_cross}
use Rattle.casts.proofs.Pattern.{reads_mid, at_unit}
use Rattle.casts.proofs.Split.{plain_is}
use Rattle.elementary.specs.Elementary.{LN2, digits_of}

-- ---- a finite value of size at most B, whatever its sign
abbrev Within : Float → ℕ → Type 0
Within nan B = ⊥
Within (inf s) B = ⊥
Within (fin s m e) B = m * up e ≤ B * down e

-- the sign of what is rounded
abbrev Plain : Float → Type 0
Plain nan = ⊥
Plain (inf s) = s ≡ false
Plain (fin s m e) = s ≡ false

odd_plain : (d q k l : ℕ) → Plain (odd d false q k l)
unfolding odd
odd_plain d zero k l = refl
odd_plain d (suc q) k l = refl

units_plain : (q k : ℕ) → Plain (units binary64 false q k)
unfolding units
units_plain q k = go (ltb (q * 2 ^ k) (2 ^ (1074 + 1024)))
  where
    go : (b : Bool) → Plain (cond b (odd 54 false q k 1074) (inf false))
    go true = odd_plain 54 q k 1074
    go false = refl

odd_within : (d q k l B : ℕ) → Within (odd d false q k l) B → Within (odd d true q k l) B
unfolding odd
odd_within d zero k l B h = h
odd_within d (suc q) k l B h = h

units_within : (q k B : ℕ) → Within (units binary64 false q k) B → Within (units binary64 true q k) B
unfolding units
units_within q k B = go (ltb (q * 2 ^ k) (2 ^ (1074 + 1024)))
  where
    go : (b : Bool) → Within (cond b (odd 54 false q k 1074) (inf false)) B → Within (cond b (odd 54 true q k 1074) (inf true)) B
    go true h = odd_within 54 q k 1074 B h
    go false h = h

below : (x y : Float) (B : ℕ) → Plain x → HasValue y false B 1 → T (le x y) → Within x B
unfolding le
below nan y B p v h = p
below (inf true) y B p v h = true≢false p
below (inf false) nan B p v h = v
below (inf false) (inf t) B p v h = v
below (inf false) (fin t n d) B p v h = h
below (fin true m e) y B p v h = absurd (true≢false p)
below (fin false m e) nan B p v h = absurd v
below (fin false m e) (inf t) B p v h = absurd v
below (fin false m e) (fin true n d) B p v h = absurd (true≢false v.0)
below (fin false m e) (fin false n d) B p v h =
    let q : n * up d ≡ B * down d = sym (mul-one (n * up d)) ∙ v.1 in
    le_of_mul-le-mul_right (rw (mul_right_comm B (down e) (down d), ← q) (le_cross m e n d h)) (down_pos d)

-- a fraction of at most B rounds to at most B
round_within : (s : Bool) (a c B : ℕ) → 0 < c → a ≤ B * c → B ≤ 2 ^ 53 → Within (round binary64 s a c) B
round_within s a c B C h b = go s
  where
    plain : Within (round binary64 false a c) B
    plain =
        below (round binary64 false a c) (round binary64 false B 1) B (subst Plain (sym (round_is binary64 false a c)) (units_plain _ _)) (round_whole binary64 false B b)
        (round_mono binary64 a c B 1 C (omega arith) (omega arith))

    go : (s : Bool) → Within (round binary64 s a c) B
    go false = plain
    go true = subst (λ (x : Float). Within x B) (sym (round_is binary64 true a c)) (units_within _ _ B (subst (λ (x : Float). Within x B) (round_is binary64 false a c) plain))

-- ---- EXP's k
domain : (v : Float) → T (le (neg (whole 64)) v) → T (le v (whole 64)) → Within v 64
unfolding le neg of_int round
domain nan a b = b
domain (inf true) a b = a
domain (inf false) a b = b
domain (fin false m e) a b = omega (arith, le_says false (m * up e * 1) false (1 * 2 ^ 6 * down e) b)
domain (fin true m e) a b = omega (arith, le_says true (1 * 2 ^ 6 * down e) true (m * up e * 1) a)

over_ln2 : (v : Float) → Within v 64 → Within (v ⊘ LN2) 93
unfolding div of_bits
over_ln2 nan h = elim h [ ]
over_ln2 (inf _) h = elim h [ ]
over_ln2 (fin s m e) h = round_within _ (m * up e * 9007199254740992) (6243314768165359 * down e) 93 (omega (arith, down_pos e)) (omega arith) (omega arith)

and_half : (x : Float) → Within x 93 → Within (x ⊕ half) 94
unfolding add sum of_bits
and_half nan h = elim h [ ]
and_half (inf _) h = elim h [ ]
and_half (fin false m e) h = round_within false (m * up e * 2 + 1 * down e) (down e * 2) 94 (omega (arith, down_pos e)) (omega arith) (omega arith)
and_half (fin true m e) h = go (ltb (m * up e * 2) (1 * down e))
  where
    go : (b : Bool) → Within (cond b (round binary64 false (1 * down e - m * up e * 2) (down e * 2)) (round binary64 (true && ltb (1 * down e) (m * up e * 2)) (m * up e * 2 - 1 * down e) (down e * 2))) 94
    go true = round_within false (1 * down e - m * up e * 2) (down e * 2) 94 (omega (arith, down_pos e)) (omega arith) (omega arith)
    go false = round_within _ (m * up e * 2 - 1 * down e) (down e * 2) 94 (omega (arith, down_pos e)) (omega arith) (omega arith)

-- k is the whole number n with its sign, and 2^k is just that
pub record Unclamped (k : Float) : Type 0 where
  pub minus : Bool
  pub n : ℕ
  pub value : HasValue k minus n 1
  pub small : n ≤ 94
  pub power : two_to (to_signed 63 k) ≡ fin false 1 (cond minus (neg_ℤ (pos n)) (pos n))

cut : (k : Float) (s : Bool) (n : ℕ) → HasValue k s n 1 → n ≤ 94 → to_signed 63 k ≡ cond s (neg_ℤ (pos n)) (pos n)
unfolding to_signed
cut nan s n v h = elim v [ ]
cut (inf _) s n v h = elim v [ ]
cut (fin t m e) s n v h =
    let q : m * up e / down e ≡ n = ap (λ (x : ℕ). x / down e) (sym (mul-one (m * up e)) ∙ v.1) ∙ mul-div_cancel n (down_pos e) in
    let a : min n (2 ^ 63) ≡ n = omega arith in
    let b : min n (2 ^ 63 - 1) ≡ n = omega arith in
    rw (v.0, q, a, b)

power_is : (s : Bool) (n : ℕ) → n ≤ 94 → two_to (cond s (neg_ℤ (pos n)) (pos n)) ≡ fin false 1 (cond s (neg_ℤ (pos n)) (pos n))
unfolding two_to
power_is false n h = rw (le-ltb 1023 n (omega arith))
power_is true zero h = refl
power_is true (suc n) h = rw (le-ltb 1021 n (omega arith))

unclamped : (k : Float) (s : Bool) (n : ℕ) → HasValue k s n 1 → n ≤ 94 → Unclamped k
unclamped k s n v h = record { minus = s; n = n; value = v; small = h; power = ap two_to (cut k s n v h) ∙ power_is s n h }

of_floor : (y : Float) → Within y 94 → Unclamped (floored y)
unfolding floored
of_floor nan h = elim h [ ]
of_floor (inf _) h = elim h [ ]
of_floor (fin false m e) h =
    let l : m * up e / down e ≤ 94 = at_most (m * up e) (down e) (down_pos e) (omega (arith, down_pos e)) in
    unclamped _ false (m * up e / down e) (round_whole binary64 false (m * up e / down e) (omega arith)) l
  where
    at_most : (a d : ℕ) → 0 < d → a < 95 * d → a / d ≤ 94
    at_most a d D h = omega (arith, (div-lt_iff_lt-mul D).1 h)
of_floor (fin true m e) h =
    let l : (m * up e + (down e - 1)) / down e ≤ 94 = at_most (m * up e + (down e - 1)) (down e) (down_pos e) (omega (arith, down_pos e)) in
    unclamped _ true ((m * up e + (down e - 1)) / down e) (round_whole binary64 true ((m * up e + (down e - 1)) / down e) (omega arith)) l
  where
    at_most : (a d : ℕ) → 0 < d → a < 95 * d → a / d ≤ 94
    at_most a d D h = omega (arith, (div-lt_iff_lt-mul D).1 h)

-- "EXP(v), size at most 64"
pub exp_unclamped : (v : Float) → T (le (neg (whole 64)) v) → T (le v (whole 64)) → Unclamped (floored (v ⊘ LN2 ⊕ half))
exp_unclamped v a b = of_floor (v ⊘ LN2 ⊕ half) (and_half (v ⊘ LN2) (over_ln2 v (domain v a b)))

-- ---- LN's split
-- the exponent's field is from 1 to 2046, and the sign is clear
pub record Normal (x : Float) : Type 0 where
  pub held : T (fits binary64 x)
  pub least : 2 ^ 52 ≤ to_bits binary64 x
  pub most : to_bits binary64 x < 2047 * 2 ^ 52

-- m is D / 2^52, from 1 up to 2, and x is D / 2^52 times 2^field / 2^1023: `exponent_of x` is field - 1023
pub record Splits (x : Float) : Type 0 where
  pub D : ℕ
  pub lead : 2 ^ 52 ≤ D
  pub under : D < 2 * 2 ^ 52
  pub digits : HasValue (digits_of x) false D (2 ^ 52)
  pub whole_of : HasValue x false (D * 2 ^ (to_bits binary64 x / 2 ^ 52)) (2 ^ 52 * 2 ^ 1023)

split_at : (x : Float) (b f : ℕ) → to_bits binary64 x ≡ b → b / 4503599627370496 ≡ suc f → f < 2046 → T (fits binary64 x) → Splits x
split_at x b f e z l t = record {
  D = 4503599627370496 + b % 4503599627370496;
  lead = omega arith;
  under = omega arith;
  digits =
      rw e
      (at_unit (of_bits binary64 (1023 * 2 ^ 52 + b % 4503599627370496)) false ((4503599627370496 + b % 4503599627370496) * 2 ^ 1022) (2 ^ 1074) (4503599627370496 + b % 4503599627370496) (2 ^ 52) (pow_pos 1074)
      (sym (mul_assoc (4503599627370496 + b % 4503599627370496) (2 ^ 1022) (2 ^ 52)))
      (subst (λ (r : ℕ). HasValue (of_bits binary64 (1023 * 2 ^ 52 + b % 4503599627370496)) false ((4503599627370496 + r) * 2 ^ 1022) (2 ^ 1074)) (fraction b)
      (subst (λ (r : ℕ). HasValue (of_bits binary64 r) false ((4503599627370496 + (1023 * 4503599627370496 + b % 4503599627370496) % 4503599627370496) * 2 ^ 1022) (2 ^ 1074)) (zero-add (1023 * 2 ^ 52 + b % 4503599627370496))
      (reads_mid binary64 false (1023 * 2 ^ 52 + b % 4503599627370496) 1022 (omega arith) (field b) (omega arith)))));
  whole_of =
      rw (e, z)
      (at_unit x false ((4503599627370496 + b % 4503599627370496) * 2 ^ f) (2 ^ 1074) ((4503599627370496 + b % 4503599627370496) * 2 ^ suc f) (2 ^ 52 * 2 ^ 1023) (pow_pos 1074)
      (place (4503599627370496 + b % 4503599627370496))
      (subst (λ (y : Float). HasValue y false ((4503599627370496 + b % 4503599627370496) * 2 ^ f) (2 ^ 1074)) (ap (λ (r : ℕ). of_bits binary64 (signed binary64 false r)) (sym e) ∙ plain_is binary64 x t)
      (reads_mid binary64 false b f (omega arith) z (omega arith))));
}
  where
    fraction : (b : ℕ) → (1023 * 4503599627370496 + b % 4503599627370496) % 4503599627370496 ≡ b % 4503599627370496
    fraction b = omega arith

    field : (b : ℕ) → (1023 * 4503599627370496 + b % 4503599627370496) / 4503599627370496 ≡ 1023
    field b = omega arith

    place : (D : ℕ) → D * 2 ^ suc f * 2 ^ 1074 ≡ D * 2 ^ f * (2 ^ 52 * 2 ^ 1023)
    place D = ap (λ (p : ℕ). D * p * 2 ^ 1074) (pow-succ' 2 f) ∙ ap (λ (p : ℕ). p * 2 ^ 1074) (again D (2 ^ f)) ∙ mul_assoc (D * 2 ^ f) 2 (2 ^ 1074)
      where
        again : (D p : ℕ) → D * (2 * p) ≡ D * p * 2
        again D p = sym (mul_assoc D 2 p) ∙ mul_right_comm D 2 p

-- "LN(m·2^k), 1 ≤ m < 2"
pub ln_splits : (x : Float) → Normal x → Splits x
ln_splits x n = split_at x (to_bits binary64 x) (to_bits binary64 x / 4503599627370496 - 1) refl (omega (arith, n.least)) (omega (arith, n.most)) n.held
