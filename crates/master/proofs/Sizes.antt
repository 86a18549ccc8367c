-- Finite values that are not below 0, by their fractions num / den: their order, and what a rounding gives. Assumes nothing.
use Rattle.std.proofs.Common.{◌≡◌, ℕ, ◌*◌, ◌<◌, ◌≤◌, true, false, not, T, refl, ap, ◌∙◌, subst, zero-le, le_trans, le_of_eq, zero-mul, arith, le-ltb}
use lib.Ieee.{Float, nan, inf, fin, binary64, up, down, round, lt, le, is_nan, of_bits}
use lib.Ieee.Order.{round_mono}
use lib.Ieee.Scale.{finite}
use lib.Ieee.Positive.{num, den}
use Rattle.casts.specs.Arithmetic.{nought, one}
use Rattle.casts.specs.Order.{le_says}
use Rattle.casts.specs.Same.{unsigned}
use Rattle.casts.proofs.Error.{round_unsigned}
use Rattle.rate.specs.Ceiling.{plain}

-- ---- finite and not below 0: -0 is
abbrev pub NonNegative : Float → Type 0
NonNegative nan = ⊥
NonNegative (inf s) = ⊥
NonNegative (fin false m e) = Unit {0}
NonNegative (fin true m e) = m ≡ 0

pub nonnegative_clean : (x : Float) → NonNegative x → T (not (is_nan x))
unfolding is_nan
nonnegative_clean nan h = h
nonnegative_clean (inf s) h = tt
nonnegative_clean (fin s m e) h = tt

pub plain_nonnegative : (x : Float) → T (plain x) → NonNegative x
plain_nonnegative nan h = h
plain_nonnegative (inf s) h = h
plain_nonnegative (fin false m e) h = tt
plain_nonnegative (fin true m e) h = absurd h

pub plain_not_below : (x : Float) → T (plain x) → lt x nought ≡ false
unfolding lt of_bits
plain_not_below nan h = absurd h
plain_not_below (inf s) h = absurd h
plain_not_below (fin true m e) h = absurd h
plain_not_below (fin false m e) h = le-ltb (m * up e * 1) (0 * down e) (le_trans (le_of_eq (zero-mul (down e))) zero-le)

-- the order of two such values is that of their fractions
pub none : (m u v : ℕ) → m ≡ 0 → m * u * v ≡ 0
none m u v e = ap (λ (x : ℕ). x * u * v) e ∙ ap (λ (x : ℕ). x * v) (zero-mul u) ∙ zero-mul v

pub le_sizes : (x y : Float) → NonNegative x → NonNegative y → T (le x y) → num x * den y ≤ num y * den x
unfolding le
le_sizes nan y p q h = absurd p
le_sizes (inf s) y p q h = absurd p
le_sizes (fin s m e) nan p q h = absurd q
le_sizes (fin s m e) (inf t) p q h = absurd q
le_sizes (fin false m e) (fin false n d) p q h = le_says false (m * up e * down d) false (n * up d * down e) h
le_sizes (fin false m e) (fin true n d) p q h = le_trans (le_of_eq (le_says false (m * up e * down d) true (n * up d * down e) h).0) zero-le
le_sizes (fin true m e) (fin t n d) p q h = le_trans (le_of_eq (none m (up e) (down d) p)) zero-le

pub plain_under : (y z : Float) → T (unsigned y) → T (plain z) → T (le y z) → T (plain y)
unfolding le
plain_under nan z u p h = absurd u
plain_under (inf true) z u p h = absurd u
plain_under (inf false) nan u p h = absurd p
plain_under (inf false) (inf t) u p h = absurd p
plain_under (inf false) (fin t n d) u p h = absurd h
plain_under (fin false m e) z u p h = tt
plain_under (fin true m e) z u p h = absurd u

-- ---- a fraction beside 1, which is 1 / 1
pub under_one : (a b : ℕ) → a < b → a * 1 ≤ 1 * b
under_one a b h = omega arith

pub under_one→le : (a b : ℕ) → a * 1 ≤ 1 * b → a ≤ b
under_one→le a b h = omega arith

pub round_one : round binary64 false 1 1 ≡ one
unfolding round of_bits
round_one = refl

-- a fraction of at most b / d rounds to at most what b / d rounds to
pub round_plain : (a c b d : ℕ) (z : Float) → 0 < c → 0 < d → a * d ≤ b * c → round binary64 false b d ≡ z → T (plain z) → T (plain (round binary64 false a c)) × (num (round binary64 false a c) * den z ≤ num z * den (round binary64 false a c))
round_plain a c b d z C D h e p =
    let y = round binary64 false a c in
    let k : T (le y z) = subst (λ (x : Float). T (le y x)) e (round_mono binary64 a c b d C D h) in
    let q : T (plain y) = plain_under y z (round_unsigned binary64 a c) p k in
    (q, le_sizes y z (plain_nonnegative y q) (plain_nonnegative z p) k)

pub plain_finite : (x : Float) → T (plain x) → T (finite x)
plain_finite nan h = h
plain_finite (inf s) h = h
plain_finite (fin s m e) h = tt
