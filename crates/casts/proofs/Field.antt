-- The exponent's field of a value's pattern tells its size, in either format: the field is at most k exactly where the size is below hid * 2 ^ k times the format's least value above 0. Assumes nothing.
use Rattle.std.proofs.Common.{◌≡◌, ℕ, zero, suc, ◌+◌, ◌-◌, ◌*◌, ◌/◌, ◌%◌, ◌^◌, ◌<◌, ◌≤◌, Bool, true, false, cond, not, T, eqb, ltb, leb, ℤ, sym, refl, ap, ◌∙◌, subst, true≢false, le_trans, lt_of_lt_of_le, le-add_right, mul-le-mul_right, mod-lt, zero-lt-suc, mul_assoc, mul_comm, lt_of_mul-lt-mul_right, mul-le-mul_left, mul-lt-mul_of_pos_right, mul-pos, zero-mul, mul_right_comm, le_of_mul-le-mul_right, arith, eqb→eq, ltb→lt, nltb→le, pow_pos, pow_mono, le-ltb, lt-ltb}
use native.Mathlib.Nat.{pow-succ'}
use lib.Ieee.{Float, nan, inf, fin, Format, prec, low, up, down, hid, ones, top, odd, lt, neg, of_fields, of_bits, to_bits, fits}
use lib.Ieee.Fits.{down_pos}
use lib.Ieee.Bits.{of_bits-to_bits}
use lib.Ieee.Exact.{HasValue, odd_sign}
use Rattle.casts.specs.Arithmetic.{size_of}

same : {x : Bool} (y : Bool) → (T y → x ≡ true) → (T (not y) → x ≡ false) → x ≡ y
same true f g = f tt
same false f g = g tt

-- ---- whether a size is below another: a comparison of fractions
pub size_lt : (s : Bool) (m : ℕ) (e : ℤ) (n : ℕ) (d : ℤ) → lt (size_of (fin s m e)) (fin false n d) ≡ ltb (m * up e * down d) (n * up d * down e)
unfolding size_of lt neg of_bits
size_lt false m e n d = ap (λ (b : Bool). lt (cond b (fin true m e) (fin false m e)) (fin false n d)) (le-ltb (m * up e * 1) (0 * down e) (none (m * up e * 1) (down e)))
  where
    none : (a k : ℕ) → 0 * k ≤ a
    none a k = omega arith
size_lt true m e n d = go (ltb 0 (m * up e * 1 + 0 * down e)) (nltb→le 0 (m * up e * 1 + 0 * down e))
  where
    none_left : (a k : ℕ) → a * 1 + 0 * k ≤ 0 → a ≡ 0
    none_left a k h = omega arith

    -- the size of −0, which is left −0
    still : (a x b : ℕ) → a ≡ 0 → ltb 0 (a * x + b) ≡ ltb (a * x) b
    still a x b h =
        let z : a * x ≡ 0 = ap (λ (i : ℕ). i * x) h ∙ zero-mul x in
        let y : a * x + b ≡ b = omega (arith, z) in
        ap (ltb 0) y ∙ ap (λ (i : ℕ). ltb i b) (sym z)

    go : (b : Bool) → (T (not b) → m * up e * 1 + 0 * down e ≤ 0) → lt (cond b (fin false m e) (fin true m e)) (fin false n d) ≡ ltb (m * up e * down d) (n * up d * down e)
    go true k = refl
    go false k = still (m * up e) (down d) (n * up d * down e) (none_left (m * up e) (down e) (k tt))

-- M / D is a / c and N / E is b / c: the fractions compare as a and b
cross : (M D N E a b c : ℕ) → 0 < D → 0 < E → 0 < c → M * c ≡ a * D → N * c ≡ b * E → ltb (M * E) (N * D) ≡ ltb a b
cross M D N E a b c hD hE hc p q = same (ltb a b) (λ (t : T (ltb a b)). lt-ltb (M * E) (N * D) (up_to (ltb→lt a b t))) (λ (t : T (not (ltb a b))). le-ltb (M * E) (N * D) (from (nltb→le a b t)))
  where
    left : M * E * c ≡ a * (D * E)
    left = mul_right_comm M E c ∙ ap (λ (x : ℕ). x * E) p ∙ mul_assoc a D E

    right : N * D * c ≡ b * (D * E)
    right = mul_right_comm N D c ∙ ap (λ (x : ℕ). x * D) q ∙ mul_assoc b E D ∙ ap (λ (x : ℕ). b * x) (mul_comm E D)

    up_to : a < b → M * E < N * D
    up_to h = lt_of_mul-lt-mul_right c (rw (left, right) (mul-lt-mul_of_pos_right h (mul-pos hD hE)))

    from : b ≤ a → N * D ≤ M * E
    from h =
        let k : N * D * c ≤ M * E * c = rw (left, right) (mul-le-mul_right (D * E) h) in
        le_of_mul-le-mul_right k hc

sizes_compare : (v y : Float) (s : Bool) (a b c : ℕ) → 0 < c → HasValue v s a c → HasValue y false b c → lt (size_of v) y ≡ ltb a b
sizes_compare (fin s m e) (fin false n d) s' a b c hc h k = size_lt s m e n d ∙ cross (m * up e) (down e) (n * up d) (down d) a b c (down_pos e) (down_pos d) hc h.1 k.1
sizes_compare (fin s m e) (fin true n d) s' a b c hc h k = absurd (true≢false k.0)
sizes_compare (fin s m e) nan s' a b c hc h k = absurd k
sizes_compare (fin s m e) (inf u) s' a b c hc h k = absurd k
sizes_compare nan y s' a b c hc h k = absurd h
sizes_compare (inf u) y s' a b c hc h k = absurd h

-- ---- what a field says of the size, counted in the format's least value above 0
-- a field of x + 1: the size is at least hid * 2 ^ x, and below twice that
units : (h t x k : ℕ) → t < h → ltb ((h + t) * 2 ^ x) (h * 2 ^ k) ≡ ltb (suc x) (suc k)
units h t x k l =
    same (ltb (suc x) (suc k))
    (λ (u : T (ltb (suc x) (suc k))). lt-ltb ((h + t) * 2 ^ x) (h * 2 ^ k) (lt_of_lt_of_le (twice (ltb→lt (suc x) (suc k) u)) (mul-le-mul_left h (pow_mono (next (ltb→lt (suc x) (suc k) u))))))
    (λ (u : T (not (ltb (suc x) (suc k)))). le-ltb ((h + t) * 2 ^ x) (h * 2 ^ k) (le_trans (mul-le-mul_left h (pow_mono (last (nltb→le (suc x) (suc k) u)))) (mul-le-mul_right (2 ^ x) (le-add_right h t))))
  where
    next : suc x < suc k → suc x ≤ k
    next g = omega arith

    last : suc k ≤ suc x → k ≤ x
    last g = omega arith

    double : h + t < h * 2
    double = omega arith

    twice : suc x < suc k → (h + t) * 2 ^ x < h * 2 ^ suc x
    twice g = subst (λ (n : ℕ). (h + t) * 2 ^ x < n) (mul_assoc h 2 (2 ^ x) ∙ ap (λ (n : ℕ). h * n) (sym (pow-succ' 2 x))) (mul-lt-mul_of_pos_right double (pow_pos x))

no_size : (b s : Bool) (y : Float) (a c : ℕ) → HasValue y false a c → lt (size_of (cond b (inf s) nan)) y ≡ false
unfolding size_of lt neg of_bits
no_size b s nan a c h = absurd h
no_size b s (inf u) a c h = absurd h
no_size true true (fin u n d) a c h = refl
no_size true false (fin u n d) a c h = refl
no_size false s (fin u n d) a c h = refl

module _ (f : Format) (y : Float) (k : ℕ) (b : suc k ≤ ones f) (h : HasValue y false (hid f * 2 ^ k) (2 ^ low f)) where
  fields_below : (s : Bool) (x t : ℕ) → t < hid f → lt (size_of (of_fields f s x t)) y ≡ ltb x (suc k)
  unfolding of_fields
  fields_below s zero t l =
      sizes_compare (odd (prec f) s t 0 (low f)) y s (t * 2 ^ 0) (hid f * 2 ^ k) (2 ^ low f) (pow_pos (low f)) (odd_sign (prec f) s t 0 (low f)) h
      ∙ lt-ltb (t * 2 ^ 0) (hid f * 2 ^ k) (lt_of_lt_of_le (mul-lt-mul_of_pos_right l (pow_pos 0)) (mul-le-mul_left (hid f) (pow_pos k)))
      ∙ sym (lt-ltb 0 (suc k) (zero-lt-suc k))
  fields_below s (suc x) t l = go (eqb (suc x) (ones f)) (eqb→eq (suc x) (ones f))
    where
      go : (q : Bool) → (T q → suc x ≡ ones f) → lt (size_of (cond q (cond (eqb t 0) (inf s) nan) (odd (prec f) s (hid f + t) x (low f)))) y ≡ ltb (suc x) (suc k)
      go true e = no_size (eqb t 0) s y (hid f * 2 ^ k) (2 ^ low f) h ∙ sym (le-ltb (suc x) (suc k) (subst (λ (n : ℕ). suc k ≤ n) (sym (e tt)) b))
      go false e =
          sizes_compare (odd (prec f) s (hid f + t) x (low f)) y s ((hid f + t) * 2 ^ x) (hid f * 2 ^ k) (2 ^ low f) (pow_pos (low f)) (odd_sign (prec f) s (hid f + t) x (low f)) h
          ∙ units (hid f) t x k l

  -- the exponent's field of v's pattern, as `of_bits` reads it
  pub field_below : (v : Float) → T (fits f v) → lt (size_of v) y ≡ ltb (to_bits f v % top f / hid f) (suc k)
  unfolding of_bits
  field_below v t =
      ap (λ (w : Float). lt (size_of w) y) (sym (of_bits-to_bits f v t))
      ∙ fields_below (leb (top f) (to_bits f v)) (to_bits f v % top f / hid f) (to_bits f v % hid f) (mod-lt (to_bits f v) (pow_pos (prec f - 1)))
