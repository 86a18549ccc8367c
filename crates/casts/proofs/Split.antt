-- A value that is no NaN, as its pattern's sign and the rest, and back. Assumes nothing.
use Rattle.std.proofs.Common.{◌≡◌, ℕ, ◌-◌, ◌*◌, ◌%◌, ◌<◌, ◌≤◌, Bool, true, false, not, T, ltb, sym, refl, ap, ◌∙◌, subst, true≢false, lt_of_le_of_lt, mod-eq_of_lt, add-sub_of_le, zero-add, arith, ltb-false, le-ltb, lt-ltb}
use native.Mathlib.Nat.{mod-eq-sub-mod, add-mod_left}
use lib.Ieee.{Float, nan, inf, fin, Format, binary32, binary64, hid, ones, top, of_bits, to_bits, fits, is_nan, nan_bits, ne, div}
use lib.Ieee.Compare.{nan_differs, differs_from_itself}
use lib.Ieee.Bits.{of_bits-to_bits, to_bits-lt, nan_bits_is, nan_bits_above, is_false}
use Rattle.casts.specs.Cast.{signed}

-- how the code makes a NaN
pub zero_by_zero : (f : Format) → div f (of_bits f 0) (of_bits f 0) ≡ nan
unfolding div of_bits
zero_by_zero binary32 = refl
zero_by_zero binary64 = refl

-- what owning a float tells: its format holds it
pub held : (f : Format) (x : Float) → fits f x ≡ true → T (fits f x)
held f x e = subst T (sym e) tt

-- the test `x != x`
pub nan_bits_lem : (f : Format) (x : Float) → ne x x ≡ true → to_bits f nan ≡ to_bits f x
nan_bits_lem f x h = ap (to_bits f) (sym (differs_from_itself x (subst T (sym h) tt)))

pub no_nan : (x : Float) → ne x x ≡ false → T (not (is_nan x))
unfolding is_nan
no_nan nan h = absurd (true≢false (sym nan_differs ∙ h))
no_nan (inf s) h = tt
no_nan (fin s m e) h = tt

inf_lt : (f : Format) → ones f * hid f < top f
inf_lt binary32 = omega arith
inf_lt binary64 = omega arith

pub not_false : (b : Bool) → b ≡ false → T (not b)
not_false true h = absurd (true≢false h)
not_false false h = tt

pub rest_le : (f : Format) (x : Float) → T (fits f x) → T (not (is_nan x)) → to_bits f x % top f ≤ ones f * hid f
rest_le f x t n =
    ltb-false (ones f * hid f) (to_bits f x % top f)
    (sym (nan_bits_above f (to_bits f x)) ∙ nan_bits_is f (to_bits f x) ∙ ap is_nan (of_bits-to_bits f x t) ∙ is_false (is_nan x) n)

-- below the sign's bit
pub plain_le : (f : Format) (x : Float) → T (fits f x) → T (not (is_nan x)) → to_bits f x < top f → to_bits f x ≤ ones f * hid f
plain_le f x t n h = subst (λ (r : ℕ). r ≤ ones f * hid f) (mod-eq_of_lt h) (rest_le f x t n)

pub plain_is : (f : Format) (x : Float) → T (fits f x) → of_bits f (signed f false (to_bits f x)) ≡ x
plain_is f x t = ap (of_bits f) (zero-add (to_bits f x)) ∙ of_bits-to_bits f x t

-- with the sign's bit
less : (n c : ℕ) → c ≤ n → n < 2 * c → n - c < c
less n c h k = omega arith

pub minus_le : (f : Format) (x : Float) → T (fits f x) → T (not (is_nan x)) → top f ≤ to_bits f x → to_bits f x - top f ≤ ones f * hid f
minus_le f x t n h =
    subst (λ (r : ℕ). r ≤ ones f * hid f) (mod-eq-sub-mod h ∙ mod-eq_of_lt (less (to_bits f x) (top f) h (to_bits-lt f x t))) (rest_le f x t n)

pub minus_is : (f : Format) (x : Float) → T (fits f x) → top f ≤ to_bits f x → of_bits f (signed f true (to_bits f x - top f)) ≡ x
minus_is f x t h = ap (of_bits f) (add-sub_of_le h) ∙ of_bits-to_bits f x t

-- a pattern up to the infinity's, with either sign, is no NaN's
signed_mod : (f : Format) (s : Bool) (r : ℕ) → r < top f → signed f s r % top f ≡ r
signed_mod f true r h = add-mod_left (top f) r ∙ mod-eq_of_lt h
signed_mod f false r h = ap (λ (x : ℕ). x % top f) (zero-add r) ∙ mod-eq_of_lt h

pub signed_no_nan : (f : Format) (s : Bool) (r : ℕ) → r ≤ ones f * hid f → T (not (nan_bits f (signed f s r)))
signed_no_nan f s r h =
    not_false (nan_bits f (signed f s r))
    (nan_bits_above f (signed f s r) ∙ ap (ltb (ones f * hid f)) (signed_mod f s r (lt_of_le_of_lt h (inf_lt f))) ∙ le-ltb (ones f * hid f) r h)

pub plain_no_nan : (f : Format) (r : ℕ) → r ≤ ones f * hid f → T (not (nan_bits f r))
plain_no_nan f r h = subst (λ (n : ℕ). T (not (nan_bits f n))) (zero-add r) (signed_no_nan f false r h)

-- ---- any pattern, by the test that the code makes
pub is_nan_lem : (x : Float) → is_nan x ≡ true → x ≡ nan
unfolding is_nan
is_nan_lem nan h = refl
is_nan_lem (inf s) h = absurd (true≢false (sym h))
is_nan_lem (fin s m e) h = absurd (true≢false (sym h))

pub reads_nan : (f : Format) (b : ℕ) → ones f * hid f < b % top f → nan ≡ of_bits f b
reads_nan f b h = sym (is_nan_lem (of_bits f b) (sym (nan_bits_is f b) ∙ nan_bits_above f b ∙ lt-ltb (ones f * hid f) (b % top f) h))

pub reads_number : (f : Format) (b : ℕ) → b % top f ≤ ones f * hid f → T (not (nan_bits f b))
reads_number f b h = not_false (nan_bits f b) (nan_bits_above f b ∙ le-ltb (ones f * hid f) (b % top f) h)
