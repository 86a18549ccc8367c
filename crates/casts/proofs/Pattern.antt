-- The bit pattern of a value by its size. In units of the format's smallest value a finite value is q * 2 ^ j, with q of at most prec digits, and with the leading one of them
-- where j is above 0. Its pattern, without the sign, is j * hid + q: the leading digit adds one to the exponent's field. At q = 2 ^ prec the same sum carries, and is right too. Assumes nothing.
use Rattle.std.proofs.Common.{◌≡◌, ℕ, suc, ◌+◌, ◌-◌, ◌*◌, ◌/◌, ◌%◌, ◌^◌, ◌<◌, ◌≤◌, Bool, true, false, cond, T, eqb, leb, ◌⊎◌, sym, refl, ap, ◌∙◌, subst, inl, inr, le_trans, le_of_eq, lt_of_lt_of_le, le-add_right, add_assoc, mul-le-mul_right, mod-eq_of_lt, mul_assoc, suc-mul, eq-or-lt_of_le, lt_of_not-le, zero-add, mul-one, mul_right_comm, not-le_of_lt, mul-div_cancel, arith, le→leb, eqb→eq, pow_pos, pow_mono, pow-add, shl_lt}
use native.Mathlib.Nat.{eq_of_mul-eq-mul_right, pow-succ', add-mod_left, mul-add-mod_self_left}
use lib.Dec.{not_T}
use lib.Arith.{lt→nleb}
use lib.Pow.{pow-lt}
use lib.Ieee.{Float, nan, inf, fin, Format, binary32, binary64, prec, low, up, down, size, odd, hid, ones, top, of_fields, of_bits, to_bits, fits}
use lib.Ieee.Digits.{size-lt, size-le}
use lib.Ieee.Fits.{down_pos}
use lib.Ieee.Bits.{cond_no, is_true, is_false, of_bits-to_bits}
use lib.Ieee.Exact.{HasValue, odd_sign}
use Rattle.casts.specs.Cast.{signed}

-- ---- reading
of_bits_is : (f : Format) (b : ℕ) → of_bits f b ≡ of_fields f (leb (top f) b) (b % top f / hid f) (b % hid f)
unfolding of_bits
of_bits_is f b = refl

same : (f : Format) {s s' : Bool} {x x' t t' : ℕ} → s ≡ s' → x ≡ x' → t ≡ t' → of_fields f s x t ≡ of_fields f s' x' t'
same f {s} {s'} {x} {x'} {t} {t'} p q r = ap (λ (a : Bool). of_fields f a x t) p ∙ ap (λ (a : ℕ). of_fields f s' a t) q ∙ ap (λ (a : ℕ). of_fields f s' x' a) r

-- a pattern below the sign's bit is read as its two fields
fields : (f : Format) (s : Bool) (r : ℕ) → r < top f → of_bits f (signed f s r) ≡ of_fields f s (r / hid f) (r % hid f)
fields f true r h =
    of_bits_is f (top f + r)
    ∙ same f (is_true (leb (top f) (top f + r)) (le→leb (top f) (top f + r) (le-add_right (top f) r)))
    (ap (λ (a : ℕ). a / hid f) (add-mod_left (top f) r ∙ mod-eq_of_lt h))
    (mul-add-mod_self_left (hid f) (suc (ones f)) r)
fields f false r h =
    ap (of_bits f) (zero-add r)
    ∙ of_bits_is f r
    ∙ same f (is_false (leb (top f) r) (lt→nleb (top f) r h)) (ap (λ (a : ℕ). a / hid f) (mod-eq_of_lt h)) refl

read_zero : (f : Format) (s : Bool) (t : ℕ) → HasValue (of_fields f s 0 t) s (t * 2 ^ 0) (2 ^ low f)
unfolding of_fields
read_zero f s t = odd_sign (prec f) s t 0 (low f)

differ : (x o : ℕ) → suc x < o → suc x ≡ o → ⊥
differ x o h e = omega arith

read_suc : (f : Format) (s : Bool) (x t : ℕ) → suc x < ones f → HasValue (of_fields f s (suc x) t) s ((hid f + t) * 2 ^ x) (2 ^ low f)
unfolding of_fields
read_suc f s x t h =
    subst (λ (v : Float). HasValue v s ((hid f + t) * 2 ^ x) (2 ^ low f))
    (sym (cond_no (eqb (suc x) (ones f)) (cond (eqb t 0) (inf s) nan) (odd (prec f) s (hid f + t) x (low f)) (not_T (eqb (suc x) (ones f)) (λ (u : T (eqb (suc x) (ones f))). differ x (ones f) h (eqb→eq (suc x) (ones f) u)))))
    (odd_sign (prec f) s (hid f + t) x (low f))

-- an exponent's field of 0
pub reads_low : (f : Format) (s : Bool) (r : ℕ) → r < top f → r / hid f ≡ 0 → HasValue (of_bits f (signed f s r)) s (r % hid f * 2 ^ 0) (2 ^ low f)
reads_low f s r h z = subst (λ (v : Float). HasValue v s (r % hid f * 2 ^ 0) (2 ^ low f)) (sym (fields f s r h ∙ ap (λ (x : ℕ). of_fields f s x (r % hid f)) z)) (read_zero f s (r % hid f))

-- one of x + 1
pub reads_mid : (f : Format) (s : Bool) (r x : ℕ) → r < top f → r / hid f ≡ suc x → suc x < ones f → HasValue (of_bits f (signed f s r)) s ((hid f + r % hid f) * 2 ^ x) (2 ^ low f)
reads_mid f s r x h z l = subst (λ (v : Float). HasValue v s ((hid f + r % hid f) * 2 ^ x) (2 ^ low f)) (sym (fields f s r h ∙ ap (λ (y : ℕ). of_fields f s y (r % hid f)) z)) (read_suc f s x (r % hid f) l)

-- the infinity's
inf_fits : (f : Format) (s : Bool) → T (fits f (inf s))
unfolding fits
inf_fits f s = tt

inf_bits : (f : Format) (s : Bool) → to_bits f (inf s) ≡ signed f s (ones f * hid f)
unfolding to_bits
inf_bits f s = refl

pub reads_inf : (f : Format) (s : Bool) → of_bits f (signed f s (ones f * hid f)) ≡ inf s
reads_inf f s = ap (of_bits f) (sym (inf_bits f s)) ∙ of_bits-to_bits f (inf s) (inf_fits f s)

-- ---- from one fraction to another of the same size
pub at_unit : (x : Float) (s : Bool) (w l a c : ℕ) → 0 < l → a * l ≡ w * c → HasValue x s w l → HasValue x s a c
at_unit nan s w l a c p h v = v
at_unit (inf t) s w l a c p h v = v
at_unit (fin t m e) s w l a c p h v = (
  v.0,
  eq_of_mul-eq-mul_right l p (m * up e * c) (a * down e)
      (mul_right_comm (m * up e) c l
      ∙ ap (λ (x : ℕ). x * c) v.1
      ∙ mul_right_comm w (down e) c
      ∙ ap (λ (x : ℕ). x * down e) (sym h)
      ∙ mul_right_comm a l (down e)),
)

-- ---- writing
to_bits_val : (f : Format) (v : Float) (s : Bool) (a : ℕ) → HasValue v s a (2 ^ low f) → to_bits f v ≡ cond s (top f) 0 + (size a - prec f) * hid f + a / 2 ^ (size a - prec f)
unfolding to_bits
to_bits_val f nan s a h = absurd h
to_bits_val f (inf t) s a h = absurd h
to_bits_val f (fin t m e) s a h =
    ap (λ (x : ℕ). cond t (top f) 0 + (size x - prec f) * hid f + x / 2 ^ (size x - prec f)) (ap (λ (x : ℕ). x / down e) h.1 ∙ mul-div_cancel a (down_pos e))
    ∙ ap (λ (u : Bool). cond u (top f) 0 + (size a - prec f) * hid f + a / 2 ^ (size a - prec f)) h.0

size_gt : (n j : ℕ) → 2 ^ j ≤ n → j < size n
size_gt n j h = lt_of_not-le (λ (g : size n ≤ j). not-le_of_lt (lt_of_lt_of_le (size-lt n) (pow_mono g)) h)

-- q has the leading one of prec digits: of q * 2 ^ j, j digits are dropped
pub drops : (p n j : ℕ) → 0 < p → 2 ^ (p - 1 + j) ≤ n → n < 2 ^ (p + j) → size n - p ≡ j
drops p n j P lo hi = exact (size n) p j P (size_gt n (p - 1 + j) lo) (size-le n (p + j) hi)
  where
    exact : (z p j : ℕ) → 0 < p → p - 1 + j < z → z ≤ p + j → z - p ≡ j
    exact z p j P a b = omega arith

pub two_pos : (f : Format) → 0 < prec f
two_pos binary32 = omega arith
two_pos binary64 = omega arith

twice : (f : Format) → 2 ^ prec f ≡ hid f * 2
twice binary32 = refl
twice binary64 = refl

-- with k digits dropped, and w kept
at_drop : (f : Format) (s : Bool) (q j k w : ℕ) → size (q * 2 ^ j) - prec f ≡ k → q * 2 ^ j ≡ w * 2 ^ k → k * hid f + w ≡ j * hid f + q
    → cond s (top f) 0 + (size (q * 2 ^ j) - prec f) * hid f + q * 2 ^ j / 2 ^ (size (q * 2 ^ j) - prec f) ≡ signed f s (j * hid f + q)
at_drop f s q j k w z e c =
    ap (λ (i : ℕ). cond s (top f) 0 + i * hid f + q * 2 ^ j / 2 ^ i) z
    ∙ ap (λ (i : ℕ). cond s (top f) 0 + k * hid f + i / 2 ^ k) e
    ∙ ap (λ (i : ℕ). cond s (top f) 0 + k * hid f + i) (mul-div_cancel w (pow_pos k))
    ∙ add_assoc (cond s (top f) 0) (k * hid f) w
    ∙ ap (λ (i : ℕ). cond s (top f) 0 + i) c

carry : (j h q : ℕ) → q ≡ h * 2 → suc j * h + h ≡ j * h + q
carry j h q e = ap (λ (x : ℕ). x + h) (suc-mul j h) ∙ three (j * h) h q e
  where
    three : (a h q : ℕ) → q ≡ h * 2 → a + h + h ≡ a + q
    three a h q e = omega arith

dropped : (f : Format) (s : Bool) (q j : ℕ) → q ≤ 2 ^ prec f → (j ≡ 0) ⊎ (hid f ≤ q)
    → cond s (top f) 0 + (size (q * 2 ^ j) - prec f) * hid f + q * 2 ^ j / 2 ^ (size (q * 2 ^ j) - prec f) ≡ signed f s (j * hid f + q)
dropped f s q j a b = elim (eq-or-lt_of_le a) [
  | inl e ↦
      let n-is : q * 2 ^ j ≡ 2 ^ (prec f + j) = ap (λ (x : ℕ). x * 2 ^ j) e ∙ sym (pow-add 2 (prec f) j) in
      at_drop f s q j (suc j) (hid f)
      (drops (prec f) (q * 2 ^ j) (suc j) (two_pos f)
      (le_trans (pow_mono (same_place (prec f) j (two_pos f))) (le_of_eq (sym n-is)))
      (subst (λ (x : ℕ). x < 2 ^ (prec f + suc j)) (sym n-is) (pow-lt (one_over (prec f) j))))
      (ap (λ (x : ℕ). x * 2 ^ j) (e ∙ twice f) ∙ mul_assoc (hid f) 2 (2 ^ j) ∙ ap (λ (x : ℕ). hid f * x) (sym (pow-succ' 2 j)))
      (carry j (hid f) q (e ∙ twice f))
  | inr l ↦ elim b [
    | inl z ↦ at_drop f s q j j q (few (size (q * 2 ^ j)) (prec f) j z (size-le (q * 2 ^ j) (prec f) (subst (λ (x : ℕ). q * 2 ^ x < 2 ^ prec f) (sym z) (subst (λ (x : ℕ). x < 2 ^ prec f) (sym (mul-one q)) l)))) refl refl
    | inr g ↦ at_drop f s q j j q (drops (prec f) (q * 2 ^ j) j (two_pos f) (le_trans (le_of_eq (pow-add 2 (prec f - 1) j)) (mul-le-mul_right (2 ^ j) g)) (shl_lt (prec f) j l)) refl refl
  ]
]
  where
    same_place : (p j : ℕ) → 0 < p → p - 1 + suc j ≤ p + j
    same_place p j P = omega arith

    one_over : (p j : ℕ) → p + j < p + suc j
    one_over p j = omega arith

    few : (z p j : ℕ) → j ≡ 0 → z ≤ p → z - p ≡ j
    few z p j e h = omega arith

-- the pattern j * hid + q, with its sign, is read as the value that is q * 2 ^ j units
pub writes : (f : Format) (v : Float) (s : Bool) (q j : ℕ) → T (fits f v) → HasValue v s (q * 2 ^ j) (2 ^ low f) → q ≤ 2 ^ prec f → (j ≡ 0) ⊎ (hid f ≤ q)
    → of_bits f (signed f s (j * hid f + q)) ≡ v
writes f v s q j t h a b = ap (of_bits f) (sym (to_bits_val f v s (q * 2 ^ j) h ∙ dropped f s q j a b)) ∙ of_bits-to_bits f v t
