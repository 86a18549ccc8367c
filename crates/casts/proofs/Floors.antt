-- The floor by bits: an f64 pattern whose exponent's field is 1075 - k has k digits below 1, and with these cleared it is the whole part's. Assumes nothing.
use Rattle.std.proofs.Common.{◌≡◌, ℕ, zero, suc, ◌+◌, ◌-◌, ◌*◌, ◌/◌, ◌%◌, ◌^◌, ◌<◌, ◌≤◌, Bool, true, false, cond, T, ltb, ◌⊎◌, ℤ, pos, negsuc, sym, refl, ap, ◌∙◌, subst, inl, inr, true≢false, le_trans, le_of_eq, lt_of_lt_of_le, le_of_lt, mul-le-mul_right, mod-lt, mod-eq_of_lt, mul_assoc, div-lt_iff_lt-mul, add-mul, add_comm, lt_of_mul-lt-mul_right, eq-or-lt_of_le, mul-le-mul_left, mul-lt-mul_of_pos_right, mul-pos, one-mul, div-add-mod', le-div_iff_mul-le, zero-mul, mul-one, mul_right_comm, div-mul-le_self, mul-div_cancel, arith, lit≤, pow_pos, pow_mono, pow-add, shl_lt, ltb-false, ltb-true}
use native.Mathlib.Nat.{eq_of_mul-eq-mul_right, add-mul-div_right, pow-succ'}
use lib.Arith.{digits_div}
use lib.Ieee.{Float, inf, fin, binary64, up, down, round, of_bits, fits, is_nan}
use lib.Ieee.Fits.{down_pos, round-fits}
use lib.Ieee.Bits.{of_bits-fits}
use lib.Ieee.Exact.{HasValue}
use lib.Ieee.Back.{round_whole}
use lib.Ieee.Nearest.{div_same}
use lib.Ieee.Scale.{round_same}
use Rattle.casts.specs.Cast.{floored, signed, Floors}
use Rattle.casts.proofs.Exact.{few_digits, round_own}
use Rattle.casts.proofs.Pattern.{reads_low, reads_mid, reads_inf, at_unit, writes}

-- ---- a whole number stays
ceil_at : (n d w : ℕ) → 0 < d → w * d ≡ n → (n + (d - 1)) / d ≡ w
ceil_at n d w D h = ap (λ (x : ℕ). (x + (d - 1)) / d) (sym h) ∙ digits_div w (omega arith)

whole_stays : (s : Bool) (m : ℕ) (e : ℤ) (c : ℕ) → T (fits binary64 (fin s m e)) → c * down e ≡ m * up e → fin s m e ≡ floored (fin s m e)
unfolding floored
whole_stays s m e c t h = go s t
  where
    own : (s : Bool) → T (fits binary64 (fin s m e)) → fin s m e ≡ round binary64 s c 1
    own s t = sym (round_own binary64 s m e t) ∙ round_same binary64 s (m * up e) (down e) c 1 (down_pos e) (omega arith) (mul-one (m * up e) ∙ sym h)

    go : (s : Bool) → T (fits binary64 (fin s m e)) → fin s m e ≡ floored (fin s m e)
    go false t = own false t ∙ ap (λ (x : ℕ). round binary64 false x 1) (sym (ap (λ (x : ℕ). x / down e) (sym h) ∙ mul-div_cancel c (down_pos e)))
    go true t = own true t ∙ ap (λ (x : ℕ). round binary64 true x 1) (sym (ceil_at (m * up e) (down e) c (down_pos e) h))

-- ---- from 2 ^ 52 on every value is whole
no_places : (s : Bool) (m : ℕ) (e : ℤ) → T (fits binary64 (fin s m e)) → 4503599627370496 * down e ≤ m * up e → (c : ℕ) × (c * down e ≡ m * up e)
no_places s m (pos k) t h = (m * 2 ^ k, mul-one (m * 2 ^ k))
no_places s zero (negsuc k) t h = absurd (none (2 ^ suc k) (pow_pos (suc k)) h)
  where
    none : (p : ℕ) → 0 < p → 4503599627370496 * p ≤ 0 * 1 → ⊥
    none p P h = omega arith
no_places s (suc m) (negsuc k) t h = absurd (many (suc m) (2 ^ k) (2 ^ suc k) (pow_pos k) (pow-succ' 2 k) (few_digits binary64 s m (negsuc k) t) h)
  where
    many : (n p q : ℕ) → 0 < p → q ≡ 2 * p → n < 9007199254740992 → 4503599627370496 * q ≤ n * 1 → ⊥
    many n p q P e a b = omega arith

stays : (s : Bool) (m : ℕ) (e : ℤ) → T (fits binary64 (fin s m e)) → 4503599627370496 * down e ≤ m * up e → fin s m e ≡ floored (fin s m e)
stays s m e t h = let c = no_places s m e t h in whole_stays s m e c.0 t c.1

ceil_over : (n d : ℕ) → 0 < d → n / d * d < n → (n + (d - 1)) / d ≡ suc (n / d)
ceil_over n d D h =
    let r : n % d < d = mod-lt n D in
    let s : n / d * d + n % d ≡ n = div-add-mod' n d in
    let z : n + (d - 1) ≡ suc (n / d) * d + (n % d - 1) = again (n / d * d) (n % d) (suc (n / d) * d) n d s (next (n / d) d) h D in
    ap (λ (x : ℕ). x / d) z ∙ digits_div (suc (n / d)) (omega arith)
  where
    again : (p r q n d : ℕ) → p + r ≡ n → q ≡ p + d → p < n → 0 < d → n + (d - 1) ≡ q + (r - 1)
    again p r q n d a b c D = omega arith

    next : (q d : ℕ) → suc q * d ≡ q * d + d
    next q d = ap (λ (x : ℕ). x * d) (sym (plus q)) ∙ add-mul q 1 d ∙ ap (λ (x : ℕ). q * d + x) (one-mul d)
      where
        plus : (q : ℕ) → q + 1 ≡ suc q
        plus q = omega arith

-- ---- `floored` sees only the value
ceil_same : (a b c d : ℕ) → 0 < b → 0 < d → a * d ≡ c * b → (a + (b - 1)) / b ≡ (c + (d - 1)) / d
ceil_same a b c d B D h = go (eq-or-lt_of_le (div-mul-le_self a b))
  where
    same : a / b ≡ c / d
    same = div_same a b c d B D h

    go : (a / b * b ≡ a) ⊎ (a / b * b < a) → (a + (b - 1)) / b ≡ (c + (d - 1)) / d
    go (inl z) =
        ceil_at a b (a / b) B z
        ∙ sym (ceil_at c d (a / b) D (eq_of_mul-eq-mul_right b B (a / b * d) c (mul_right_comm (a / b) d b ∙ ap (λ (x : ℕ). x * d) z ∙ h)))
    go (inr l) =
        ceil_over a b B l
        ∙ ap suc same
        ∙ sym (ceil_over c d D (subst (λ (q : ℕ). q * d < c) same (lt_of_mul-lt-mul_right b (rw (mul_right_comm (a / b) d b, ← h) (mul-lt-mul_of_pos_right l D)))))

floored_at : (v : Float) (s : Bool) (a c : ℕ) → 0 < c → HasValue v s a c → floored v ≡ round binary64 s (cond s ((a + (c - 1)) / c) (a / c)) 1
unfolding floored
floored_at lib.Ieee.nan s a c C h = elim h [ ]
floored_at (inf _) s a c C h = elim h [ ]
floored_at (fin true m e) false a c C h = absurd (true≢false h.0)
floored_at (fin false m e) true a c C h = absurd (true≢false (sym h.0))
floored_at (fin false m e) false a c C h = ap (λ (n : ℕ). round binary64 false n 1) (div_same (m * up e) (down e) a c (down_pos e) C h.1)
floored_at (fin true m e) true a c C h = ap (λ (n : ℕ). round binary64 true n 1) (ceil_same (m * up e) (down e) a c (down_pos e) C h.1)

-- ---- k digits below 1, k from 1 to 52: the exponent's field is x + 1, and x + k = 1074
module _ (s : Bool) (m x k : ℕ) (e : m / 4503599627370496 ≡ suc x) (p : x + k ≡ 1074) (hi : k ≤ 52) where
  abbrev D : ℕ
  D = 4503599627370496 + m % 4503599627370496

  abbrev v : Float
  v = of_bits binary64 (signed binary64 s m)

  m_is : m ≡ D + x * 4503599627370496
  m_is = omega (arith, e)

  D-most : D < 9007199254740992
  D-most = omega arith

  value : HasValue v s D (2 ^ k)
  value = at_unit v s (D * 2 ^ x) (2 ^ 1074) D (2 ^ k) (pow_pos 1074) (sym (mul_assoc D (2 ^ x) (2 ^ k) ∙ ap (λ (y : ℕ). D * y) (sym (pow-add 2 x k) ∙ ap (λ (y : ℕ). 2 ^ y) p))) (reads_mid binary64 s m x (omega (arith, e, p)) e (omega (arith, p)))

  unit : 2 ^ (52 - k) * 2 ^ k ≡ 4503599627370496
  unit = sym (pow-add 2 (52 - k) k) ∙ ap (λ (y : ℕ). 2 ^ y) (back k hi)
    where
      back : (k : ℕ) → k ≤ 52 → 52 - k + k ≡ 52
      back k h = omega arith

  -- the pattern of n, a whole number of at most 53 digits whose lowest k are clear
  put : (n : ℕ) → floored v ≡ round binary64 s n 1 → n * 2 ^ k ≤ 9007199254740992 → 4503599627370496 ≤ n * 2 ^ k → of_bits binary64 (signed binary64 s (x * 4503599627370496 + n * 2 ^ k)) ≡ floored v
  put n f most lead =
      writes binary64 (round binary64 s n 1) s (n * 2 ^ k) x (round-fits binary64 s n 1)
      (at_unit (round binary64 s n 1) s n 1 (n * 2 ^ k * 2 ^ x) (2 ^ 1074) (omega arith)
      (mul-one (n * 2 ^ k * 2 ^ x) ∙ mul_assoc n (2 ^ k) (2 ^ x) ∙ ap (λ (y : ℕ). n * y) (sym (pow-add 2 k x) ∙ ap (λ (y : ℕ). 2 ^ y) (add_comm k x ∙ p)))
      (round_whole binary64 s n (le_trans (le_trans (le_of_eq (sym (mul-one n))) (mul-le-mul_left n (pow_pos k))) most))) most (inr lead)
      ∙ sym f

  -- the pattern with its lowest k digits cleared, for the digits d
  clear : (d : ℕ) → (d + x * 4503599627370496) / 2 ^ k * 2 ^ k ≡ x * 4503599627370496 + d / 2 ^ k * 2 ^ k
  clear d =
      let y : x * 2 ^ (52 - k) * 2 ^ k ≡ x * 4503599627370496 = mul_assoc x (2 ^ (52 - k)) (2 ^ k) ∙ ap (λ (z : ℕ). x * z) unit in
      ap (λ (z : ℕ). (d + z) / 2 ^ k * 2 ^ k) (sym y)
      ∙ ap (λ (z : ℕ). z * 2 ^ k) (add-mul-div_right d (x * 2 ^ (52 - k)) (pow_pos k))
      ∙ add-mul (d / 2 ^ k) (x * 2 ^ (52 - k)) (2 ^ k)
      ∙ ap (λ (z : ℕ). d / 2 ^ k * 2 ^ k + z) y
      ∙ add_comm (d / 2 ^ k * 2 ^ k) (x * 4503599627370496)

  lead_of : (d : ℕ) → 4503599627370496 ≤ d → 4503599627370496 ≤ d / 2 ^ k * 2 ^ k
  lead_of d h =
      le_trans (le_of_eq (sym unit)) (mul-le-mul_right (2 ^ k) ((le-div_iff_mul-le (pow_pos k)).1 (le_trans (le_of_eq unit) h)))

  most_of : (d : ℕ) → d < 9007199254740992 + 2 ^ k → d / 2 ^ k * 2 ^ k ≤ 9007199254740992
  most_of d h =
      let u : 2 ^ (52 - k) * 2 * 2 ^ k ≡ 9007199254740992 = mul_right_comm (2 ^ (52 - k)) 2 (2 ^ k) ∙ ap (λ (z : ℕ). z * 2) unit in
      let w : (2 ^ (52 - k) * 2 + 1) * 2 ^ k ≡ 9007199254740992 + 2 ^ k = add-mul (2 ^ (52 - k) * 2) 1 (2 ^ k) ∙ ap (λ (z : ℕ). z + 1 * 2 ^ k) u ∙ ap (λ (z : ℕ). 9007199254740992 + z) (one-mul (2 ^ k)) in
      let l : d / 2 ^ k < 2 ^ (52 - k) * 2 + 1 = (div-lt_iff_lt-mul (pow_pos k)).1 (subst (λ (z : ℕ). d < z) (sym w) h) in
      le_trans (mul-le-mul_right (2 ^ k) (less l)) (le_of_eq u)
    where
      less : {a b : ℕ} → a < b + 1 → a ≤ b
      less h = omega arith

mid_field : (m : ℕ) → 1023 ≤ m / 4503599627370496 → m / 4503599627370496 ≡ suc (m / 4503599627370496 - 1)
mid_field m h = omega arith

mid_places : (m k : ℕ) → 1023 ≤ m / 4503599627370496 → m / 4503599627370496 < 1075 → k ≡ 1075 - m / 4503599627370496 → m / 4503599627370496 - 1 + k ≡ 1074
mid_places m k a b e = omega arith

wrapped : (n : ℕ) → n ≤ 9218868437227405312 → n % 18446744073709551616 ≡ n
wrapped n h = mod-eq_of_lt (omega arith)

-- x below 2 ^ 52 and 1 or more, rounded down
pub floors_mid : (m k : ℕ) → 1023 ≤ m / 4503599627370496 → m / 4503599627370496 < 1075 → k ≡ 1075 - m / 4503599627370496 → Floors false m (m / 2 ^ k * 2 ^ k % 18446744073709551616)
floors_mid m k lo hi z = subst (Floors false m) (sym (wrapped _ (small))) (record { small = small; same = subst (λ (r : ℕ). of_bits binary64 (signed binary64 false r) ≡ floored (of_bits binary64 (signed binary64 false m))) (sym is) (put false m x k e p h (d / 2 ^ k) (floored_at _ false d (2 ^ k) (pow_pos k) (value false m x k e p h)) most (lead_of false m x k e p h d (omega arith))) })
  where
    x : ℕ
    x = m / 4503599627370496 - 1

    d : ℕ
    d = 4503599627370496 + m % 4503599627370496

    e : m / 4503599627370496 ≡ suc x
    e = mid_field m lo

    p : x + k ≡ 1074
    p = mid_places m k lo hi z

    h : k ≤ 52
    h = omega arith

    most : d / 2 ^ k * 2 ^ k ≤ 9007199254740992
    most = most_of false m x k e p h d (omega (arith, pow_pos k))

    is : m / 2 ^ k * 2 ^ k ≡ x * 4503599627370496 + d / 2 ^ k * 2 ^ k
    is = ap (λ (y : ℕ). y / 2 ^ k * 2 ^ k) (m_is false m x k e p h) ∙ clear false m x k e p h d

    small : m / 2 ^ k * 2 ^ k ≤ 9218868437227405312
    small = le_trans (le_of_eq is) (omega (arith, most))

-- and rounded up
pub raises_mid : (m k u : ℕ) → 1023 ≤ m / 4503599627370496 → m / 4503599627370496 < 1075 → k ≡ 1075 - m / 4503599627370496 → u ≡ 2 ^ k → Floors true m ((m + (u - 1)) / 2 ^ k * 2 ^ k % 18446744073709551616)
raises_mid m k u lo hi z w =
    rw w
    (subst (Floors true m) (sym (wrapped _ (small))) (record { small = small; same = subst (λ (r : ℕ). of_bits binary64 (signed binary64 true r) ≡ floored (of_bits binary64 (signed binary64 true m))) (sym is) (put true m x k e p h (d / 2 ^ k) (floored_at _ true (4503599627370496 + m % 4503599627370496) (2 ^ k) (pow_pos k) (value true m x k e p h)) most (lead_of true m x k e p h d (omega arith))) }))
  where
    x : ℕ
    x = m / 4503599627370496 - 1

    d : ℕ
    d = 4503599627370496 + m % 4503599627370496 + (2 ^ k - 1)

    e : m / 4503599627370496 ≡ suc x
    e = mid_field m lo

    p : x + k ≡ 1074
    p = mid_places m k lo hi z

    h : k ≤ 52
    h = omega arith

    most : d / 2 ^ k * 2 ^ k ≤ 9007199254740992
    most = most_of true m x k e p h d (omega (arith, pow_pos k))

    is : (m + (2 ^ k - 1)) / 2 ^ k * 2 ^ k ≡ x * 4503599627370496 + d / 2 ^ k * 2 ^ k
    is = ap (λ (y : ℕ). y / 2 ^ k * 2 ^ k) (order m (4503599627370496 + m % 4503599627370496) (x * 4503599627370496) (2 ^ k - 1) (m_is true m x k e p h)) ∙ clear true m x k e p h d
      where
        order : (m d y u : ℕ) → m ≡ d + y → m + u ≡ d + u + y
        order m d y u h = omega arith

    small : (m + (2 ^ k - 1)) / 2 ^ k * 2 ^ k ≤ 9218868437227405312
    small = le_trans (le_of_eq is) (omega (arith, most))

-- ---- a size below 1
tiny : (s : Bool) (m : ℕ) → m / 4503599627370496 < 1023 → (a : ℕ) × HasValue (of_bits binary64 (signed binary64 s m)) s a (2 ^ 1074) × (a < 2 ^ 1074) × (0 < m → 0 < a)
tiny s m h = go (m / 4503599627370496) refl h
  where
    places : (x : ℕ) → suc x < 1023 → 53 + x ≤ 1074
    places x l = omega arith

    go : (f : ℕ) → m / 4503599627370496 ≡ f → f < 1023 → (a : ℕ) × HasValue (of_bits binary64 (signed binary64 s m)) s a (2 ^ 1074) × (a < 2 ^ 1074) × (0 < m → 0 < a)
    go zero e l = (
      m % 4503599627370496 * 2 ^ 0,
      reads_low binary64 s m (omega arith) e,
      lt_of_lt_of_le (subst (λ (y : ℕ). y < 4503599627370496) (sym (mul-one (m % 4503599627370496))) (omega arith)) (lit≤ tt),
      λ (P : 0 < m). subst (λ (y : ℕ). 0 < y) (sym (mul-one (m % 4503599627370496))) (omega arith),
    )
    go (suc x) e l = (
      (4503599627370496 + m % 4503599627370496) * 2 ^ x,
      reads_mid binary64 s m x (omega arith) e (omega arith),
      lt_of_lt_of_le (shl_lt 53 x (omega arith)) (pow_mono (places x l)),
      λ (P : 0 < m). mul-pos (omega arith) (pow_pos x),
    )

none : (a c : ℕ) → a < c → a / c ≡ 0
none a c h = few ((div-lt_iff_lt-mul (omega arith)).1 (lt_of_lt_of_le h (le_of_eq (sym (one-mul c)))))
  where
    few : {q : ℕ} → q < 1 → q ≡ 0
    few h = omega arith

zero_is : round binary64 false 0 1 ≡ of_bits binary64 0
unfolding round of_bits
zero_is = refl

minus_one_is : round binary64 true 1 1 ≡ of_bits binary64 (9223372036854775808 + 4607182418800017408)
unfolding round of_bits
minus_one_is = refl

minus_zero_is : of_bits binary64 9223372036854775808 ≡ floored (of_bits binary64 9223372036854775808)
unfolding round of_bits floored
minus_zero_is = refl

pub floors_tiny : (m : ℕ) → m / 4503599627370496 < 1023 → Floors false m 0
floors_tiny m h =
    let t = tiny false m h in
    record { small = omega arith; same = sym (floored_at _ false t.0 (2 ^ 1074) (pow_pos 1074) t.1 ∙ ap (λ (n : ℕ). round binary64 false n 1) (none t.0 (2 ^ 1074) t.2) ∙ zero_is) }

pub raises_zero : Floors true 0 0
raises_zero = record { small = omega arith; same = minus_zero_is }

pub raises_tiny : (m : ℕ) → 0 < m → m / 4503599627370496 < 1023 → Floors true m 4607182418800017408
raises_tiny m P h =
    let t = tiny true m h in
    let w : t.0 / 2 ^ 1074 ≡ 0 = none t.0 (2 ^ 1074) t.2 in
    let c : (t.0 + (2 ^ 1074 - 1)) / 2 ^ 1074 ≡ 1 = ceil_over t.0 (2 ^ 1074) (pow_pos 1074) (subst (λ (n : ℕ). n < t.0) (sym (ap (λ (q : ℕ). q * 2 ^ 1074) w ∙ zero-mul (2 ^ 1074))) (t.3 P)) ∙ ap suc w in
    record { small = omega arith; same = sym (floored_at _ true t.0 (2 ^ 1074) (pow_pos 1074) t.1 ∙ ap (λ (n : ℕ). round binary64 true n 1) c ∙ minus_one_is) }

-- ---- from 2 ^ 52 on, and the infinity, and a NaN
pub nan_stays : (x : Float) → is_nan x ≡ true → x ≡ floored x
unfolding floored is_nan
nan_stays lib.Ieee.nan h = refl
nan_stays (inf s) h = refl
nan_stays (fin s m e) h = absurd (true≢false (sym h))

inf_stays : (s : Bool) → inf s ≡ floored (inf s)
unfolding floored
inf_stays s = refl

whole_value : (y : Float) (s : Bool) (c : ℕ) → T (fits binary64 y) → HasValue y s c 1 → y ≡ floored y
whole_value lib.Ieee.nan s c f h = elim h [ ]
whole_value (inf _) s c f h = elim h [ ]
whole_value (fin t m e) s c f h = whole_stays t m e c f (sym (sym (mul-one (m * up e)) ∙ h.1))

pub floors_far : (s : Bool) (m : ℕ) → 1075 ≤ m / 4503599627370496 → m ≤ 9218868437227405312 → Floors s m m
floors_far s m lo hi = record { small = hi; same = go (eq-or-lt_of_le hi) }
  where
    go : (m ≡ 9218868437227405312) ⊎ (m < 9218868437227405312) → of_bits binary64 (signed binary64 s m) ≡ floored (of_bits binary64 (signed binary64 s m))
    go (inl e) = subst (λ (r : ℕ). of_bits binary64 (signed binary64 s r) ≡ floored (of_bits binary64 (signed binary64 s r))) (sym e) (reads_inf binary64 s ∙ inf_stays s ∙ sym (ap floored (reads_inf binary64 s)))
    go (inr l) =
        let x = m / 4503599627370496 - 1 in
        let d = 4503599627370496 + m % 4503599627370496 in
        whole_value (of_bits binary64 (signed binary64 s m)) s (d * 2 ^ (x - 1074)) (of_bits-fits binary64 (signed binary64 s m))
        (at_unit (of_bits binary64 (signed binary64 s m)) s (d * 2 ^ x) (2 ^ 1074) (d * 2 ^ (x - 1074)) 1 (pow_pos 1074)
        (mul_assoc d (2 ^ (x - 1074)) (2 ^ 1074) ∙ ap (λ (y : ℕ). d * y) (sym (pow-add 2 (x - 1074) 1074) ∙ ap (λ (y : ℕ). 2 ^ y) (back m lo)) ∙ sym (mul-one (d * 2 ^ x)))
        (reads_mid binary64 s m x (omega arith) (mid_field m (omega arith)) (omega arith)))
      where
        back : (m : ℕ) → 1075 ≤ m / 4503599627370496 → m / 4503599627370496 - 1 - 1074 + 1074 ≡ m / 4503599627370496 - 1
        back m h = omega arith

-- ---- the floor is exact at every size: its value is the whole number itself
abbrev pub floor_size : Bool → ℕ → ℤ → ℕ
floor_size false m e = m * up e / down e
floor_size true m e = (m * up e + (down e - 1)) / down e

small_exact : (s : Bool) (m : ℕ) (e : ℤ) → m * up e < 4503599627370496 * down e → HasValue (floored (fin s m e)) s (floor_size s m e) 1
unfolding floored
small_exact false m e h = round_whole binary64 false (m * up e / down e) (omega (arith, (div-lt_iff_lt-mul (down_pos e)).1 h))
small_exact true m e h = round_whole binary64 true ((m * up e + (down e - 1)) / down e) (le_of_lt ((div-lt_iff_lt-mul (down_pos e)).1 (omega (arith, down_pos e))))

size_of_whole : (s : Bool) (m : ℕ) (e : ℤ) (c : ℕ) → c * down e ≡ m * up e → floor_size s m e ≡ c
size_of_whole false m e c h = ap (λ (x : ℕ). x / down e) (sym h) ∙ mul-div_cancel c (down_pos e)
size_of_whole true m e c h = ceil_at (m * up e) (down e) c (down_pos e) h

large_exact : (s : Bool) (m : ℕ) (e : ℤ) → T (fits binary64 (fin s m e)) → 4503599627370496 * down e ≤ m * up e → HasValue (floored (fin s m e)) s (floor_size s m e) 1
large_exact s m e t h =
    let c = no_places s m e t h in
    subst (λ (x : Float). HasValue x s (floor_size s m e) 1) (stays s m e t h) (refl, mul-one (m * up e) ∙ sym (ap (λ (n : ℕ). n * down e) (size_of_whole s m e c.0 c.1) ∙ c.1))

pub floored_exact : (s : Bool) (m : ℕ) (e : ℤ) → T (fits binary64 (fin s m e)) → HasValue (floored (fin s m e)) s (floor_size s m e) 1
floored_exact s m e t = go (ltb (m * up e) (4503599627370496 * down e)) refl
  where
    go : (b : Bool) → ltb (m * up e) (4503599627370496 * down e) ≡ b → HasValue (floored (fin s m e)) s (floor_size s m e) 1
    go true q = small_exact s m e (ltb-true (m * up e) (4503599627370496 * down e) q)
    go false q = large_exact s m e t (ltb-false (m * up e) (4503599627370496 * down e) q)
