-- The gain that a count comes to is no larger than the need that bounds the count: the step of a need is exactly the whole part of 2 ^ 40 times it, and rounding keeps the order. Assumes nothing.
use Rattle.std.proofs.Common.{◌≡◌, ℕ, zero, suc, ◌+◌, ◌-◌, ◌*◌, ◌/◌, ◌^◌, ◌<◌, ◌≤◌, min, Bool, true, false, cond, T, eqb, ℤ, pos, negsuc, sym, ap, ◌∙◌, subst, true≢false, le_trans, le_of_eq, lt_of_lt_of_le, lt_of_le_of_lt, lt_irrefl, mul-le-mul_right, zero-lt-suc, mul_assoc, mul_comm, mul-le-mul_left, mul-pos, one-mul, zero-mul, mul-one, sub-add_cancel, mul_right_comm, div-mul-le_self, le_of_mul-le-mul_right, mul_left_comm, arith, lit≤, eqb→eq, pow_pos, pow-add}
use lib.Pow.{pow-lt}
use lib.Ieee.{Float, nan, inf, fin, Format, binary64, prec, emax, low, up, down, round, mul, div, fits, of_int, to_unsigned}
use lib.Ieee.Fits.{down_pos}
use lib.Ieee.Exact.{HasValue, round_exact}
use lib.Ieee.Back.{round_whole}
use lib.Ieee.Scale.{round_same}
use lib.Ieee.Positive.{num, den, first_pos}
use Rattle.casts.specs.Step.{step_of}
use Rattle.casts.specs.Arithmetic.{whole}
use Rattle.casts.proofs.Exact.{few_digits, few_places, round_own}
use Rattle.rate.specs.Ceiling.{unit, plain}
use Rattle.rate.specs.declared.CeilingRate.{CeilingRate}
use Rattle.master.specs.Ceiling.{gain_of}
use Rattle.master.proofs.Sizes.{round_plain}

-- ---- a value that fits, in units of the format's smallest value
in_units : (f : Format) (e : ℤ) → down e ≤ 2 ^ low f → (j : ℕ) × (up e * 2 ^ low f ≡ 2 ^ j * down e)
in_units f (pos k) h = (k + low f, sym (pow-add 2 k (low f)) ∙ sym (mul-one (2 ^ (k + low f))))
in_units f (negsuc k) h = (low f - suc k, one-mul (2 ^ low f) ∙ ap (λ (x : ℕ). 2 ^ x) (sym (sub-add_cancel few)) ∙ pow-add 2 (low f - suc k) (suc k))
  where
    few : suc k ≤ low f
    few = go (λ (g : low f < suc k). lt_irrefl (2 ^ low f) (lt_of_lt_of_le (pow-lt g) h))
      where
        go : (low f < suc k → ⊥) → suc k ≤ low f
        go n = omega arith

-- ---- 2 ^ t times a value of at most 1 that fits is exact
times_exact : (f : Format) (m : ℕ) (e : ℤ) (t : ℕ) → t ≤ emax f → T (fits f (fin false m e)) → m * up e ≤ down e
    → HasValue (round f false (m * up e * (1 * 2 ^ t)) (down e * 1)) false (m * up e * (1 * 2 ^ t)) (down e * 1)
times_exact f zero e t T F h =
    round_exact f false (zero * up e * (1 * 2 ^ t)) (down e * 1) 0 0 (mul-pos (down_pos e) (pow_pos 0)) (pow_pos (prec f)) (pow_pos (low f + suc (emax f)))
    (ap (λ (x : ℕ). x * (1 * 2 ^ t) * 2 ^ low f) (zero-mul (up e)) ∙ ap (λ (x : ℕ). x * 2 ^ low f) (zero-mul (1 * 2 ^ t)) ∙ zero-mul (2 ^ low f) ∙ sym (zero-mul (down e * 1)))
times_exact f (suc m) e t T F h =
    let p = in_units f e (few_places f false m e F) in
    let j = p.0 in
    let small : suc m * 2 ^ j ≤ 2 ^ low f =
    le_of_mul-le-mul_right (le_trans (le_of_eq (mul_assoc (suc m) (2 ^ j) (down e) ∙ ap (λ (x : ℕ). suc m * x) (sym p.1) ∙ sym (mul_assoc (suc m) (up e) (2 ^ low f)))) (le_trans (mul-le-mul_right (2 ^ low f) h) (le_of_eq (mul_comm (down e) (2 ^ low f))))) (down_pos e) in
    round_exact f false (suc m * up e * (1 * 2 ^ t)) (down e * 1) (suc m) (j + t) (mul-pos (down_pos e) (pow_pos 0)) (few_digits f false m e F)
    (lt_of_le_of_lt (le_trans (le_of_eq (ap (λ (x : ℕ). suc m * x) (pow-add 2 j t) ∙ sym (mul_assoc (suc m) (2 ^ j) (2 ^ t)))) (le_trans (mul-le-mul_right (2 ^ t) small) (le_of_eq (sym (pow-add 2 (low f) t)))))
    (pow-lt (more (low f) t (emax f) T)))
    (same (suc m) (up e) (2 ^ t) (2 ^ low f) (2 ^ j) (down e) (2 ^ (j + t)) p.1 (pow-add 2 j t))
  where
    more : (l t x : ℕ) → t ≤ x → l + t < l + suc x
    more l t x h = omega arith

    same : (m u t l j d jt : ℕ) → u * l ≡ j * d → jt ≡ j * t → m * u * (1 * t) * l ≡ m * jt * (d * 1)
    same m u t l j d jt p q =
        let e : m * u * t * l ≡ m * (j * t) * d = simp (mul_assoc, mul_comm) (simp (mul_assoc, mul_comm, mul_left_comm) at (ap (λ (x : ℕ). x * (m * t)) p)) in
        ap (λ (x : ℕ). m * u * x * l) (one-mul t) ∙ e ∙ ap (λ (x : ℕ). m * x * d) (sym q) ∙ ap (λ (x : ℕ). m * jt * x) (sym (mul-one d))

-- ---- the whole part of a value
cut_under : (w : ℕ) (y : Float) (a c : ℕ) → 0 < c → HasValue y false a c → to_unsigned w y * c ≤ a
unfolding to_unsigned
cut_under w nan a c C h = absurd h
cut_under w (inf s) a c C h = absurd h
cut_under w (fin true m e) a c C h = absurd (true≢false h.0)
cut_under w (fin false m e) a c C h =
    let q = m * up e / down e in
    let t = min q (2 ^ w - 1) in
    let u : t * down e ≤ m * up e = le_trans (mul-le-mul_right (down e) (least q (2 ^ w - 1))) (div-mul-le_self (m * up e) (down e)) in
    le_of_mul-le-mul_right (le_trans (le_of_eq (mul_right_comm t c (down e))) (le_trans (mul-le-mul_right c u) (le_of_eq h.1))) (down_pos e)
  where
    least : (a b : ℕ) → min a b ≤ a
    least a b = omega arith

-- the step of a need: step / 2 ^ 40 ≤ need
step_under : (m : ℕ) (e : ℤ) → T (fits binary64 (fin false m e)) → m * up e ≤ down e → step_of (fin false m e) * down e ≤ m * up e * 2 ^ 40
unfolding step_of mul
step_under m e F h =
    let v = times_exact binary64 m e 40 (lit≤ tt) F h in
    let u : step_of (fin false m e) * (down e * 1) ≤ m * up e * (1 * 2 ^ 40) = cut_under 64 (round binary64 false (m * up e * (1 * 2 ^ 40)) (down e * 1)) (m * up e * (1 * 2 ^ 40)) (down e * 1) (mul-pos (down_pos e) (pow_pos 0)) v in
    le_trans (le_of_eq (ap (λ (x : ℕ). step_of (fin false m e) * x) (sym (mul-one (down e))))) (le_trans u (le_of_eq (ap (λ (x : ℕ). m * up e * x) (one-mul (2 ^ 40)))))

-- ---- a quotient, by any fractions that its parts equal
pub div_at : (f : Format) (x y : Float) (a c b d : ℕ) → 0 < c → 0 < d → 0 < b → HasValue x false a c → HasValue y false b d → div f x y ≡ round f false (a * d) (b * c)
unfolding div
div_at f nan y a c b d C D B h k = absurd h
div_at f (inf s) y a c b d C D B h k = absurd h
div_at f (fin true m e) y a c b d C D B h k = absurd (true≢false h.0)
div_at f (fin false m e) nan a c b d C D B h k = absurd k
div_at f (fin false m e) (inf t) a c b d C D B h k = absurd k
div_at f (fin false m e) (fin true n g) a c b d C D B h k = absurd (true≢false k.0)
div_at f (fin false m e) (fin false n g) a c b d C D B h k = go (eqb n 0) (eqb→eq n 0)
  where
    N : 0 < n * up g
    N = first_pos (n * up g) d (subst (λ (x : ℕ). 0 < x) (sym k.1) (mul-pos B (down_pos g)))

    clash : n ≡ 0 → ⊥
    clash z = lt_irrefl 0 (subst (λ (x : ℕ). 0 < x) (ap (λ (x : ℕ). x * up g) z ∙ zero-mul (up g)) N)

    cross : m * up e * down g * (b * c) ≡ a * d * (n * up g * down e)
    cross =
        let p : m * up e * down g * (b * c) ≡ m * up e * c * (b * down g) = simp (mul_assoc, mul_comm, mul_left_comm) in
        let q : a * down e * (n * up g * d) ≡ a * d * (n * up g * down e) = simp (mul_assoc, mul_comm, mul_left_comm) in
        p ∙ ap (λ (x : ℕ). x * (b * down g)) h.1 ∙ ap (λ (x : ℕ). a * down e * x) (sym k.1) ∙ q

    go : (z : Bool) → (T z → n ≡ 0) → cond z (cond (eqb m 0) nan (inf false)) (round f false (m * up e * down g) (n * up g * down e)) ≡ round f false (a * d) (b * c)
    go true z = absurd (clash (z tt))
    go false z = round_same f false (m * up e * down g) (n * up g * down e) (a * d) (b * c) (mul-pos N (down_pos e)) (mul-pos B C) cross

-- ---- the gain
module _ (r : CeilingRate) (few : suc r.ahead ≤ 2 ^ 13) where
  abbrev full : ℕ
  full = suc r.ahead * unit

  full_pos : 0 < full
  full_pos = mul-pos (zero-lt-suc r.ahead) (pow_pos 40)

  full_small : full ≤ 2 ^ 53
  full_small = mul-le-mul_right (2 ^ 40) few

  gain_rounds : (count : ℕ) → count ≤ full → gain_of r count ≡ round binary64 false (count * 1) (full * 1)
  unfolding gain_of of_int
  gain_rounds count h =
      div_at binary64 (whole count) (whole full) count 1 full 1 (pow_pos 0) (pow_pos 0) full_pos
      (round_whole binary64 false count (le_trans h full_small)) (round_whole binary64 false full full_small)

  -- a count of at most `full` times the need gives a gain of at most the need
  pub gain_under : (count : ℕ) (m : ℕ) (e : ℤ) → T (fits binary64 (fin false m e)) → m * up e ≤ down e → count ≤ suc r.ahead * step_of (fin false m e)
      → T (plain (gain_of r count)) × (num (gain_of r count) * down e ≤ m * up e * den (gain_of r count))
  gain_under count m e F h k =
      let A = suc r.ahead in
      let s = step_of (fin false m e) in
      let u : s * down e ≤ m * up e * 2 ^ 40 = step_under m e F h in
      let c : count * down e ≤ m * up e * full =
      le_trans (mul-le-mul_right (down e) k) (le_trans (le_of_eq (mul_assoc A s (down e))) (le_trans (mul-le-mul_left A u) (le_of_eq (mul_left_comm A (m * up e) (2 ^ 40))))) in
      let b : count ≤ full = le_of_mul-le-mul_right (le_trans c (le_trans (mul-le-mul_right full h) (le_of_eq (mul_comm (down e) full)))) (down_pos e) in
      subst (λ (x : Float). T (plain x) × (num x * down e ≤ m * up e * den x)) (sym (gain_rounds count b))
      (round_plain (count * 1) (full * 1) (m * up e) (down e) (fin false m e) (mul-pos full_pos (pow_pos 0)) (down_pos e)
      (le_trans (le_of_eq (ap (λ (x : ℕ). x * down e) (mul-one count))) (le_trans c (le_of_eq (ap (λ (x : ℕ). m * up e * x) (sym (mul-one full)))))) (round_own binary64 false m e F) tt)
