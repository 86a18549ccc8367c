-- Rounding keeps the order: of a number that is finite and not negative, the quotient falls as the divisor grows; a sum grows with its second part, and is never below its first. A square has no sign. Assumes nothing.
use Rattle.std.proofs.Common.{◌≡◌, ℕ, ◌+◌, ◌*◌, ◌≤◌, Bool, true, false, cond, not, T, eqb, ltb, ℤ, pos, sym, refl, subst, zero-le, le_trans, le_of_eq, add-le-add, mul-le-mul_right, mul_assoc, mul_comm, add-mul, mul-pos, zero-mul, mul-one, mul_left_comm, arith, eqb→eq, ltb→lt}
use mathlib.Core.Bool.{beq}
use lib.Ieee.{Float, nan, inf, fin, binary64, unlike, up, down, round, add, mul, div, le, fits, is_nan}
use lib.Ieee.Fits.{up_pos, down_pos}
use lib.Ieee.Order.{round_mono}
use lib.Ieee.Positive.{above}
use Rattle.casts.specs.Arithmetic.{◌⊕◌, ◌⊗◌, ◌⊘◌}
use Rattle.casts.specs.Order.{le_cross, says_le}
use Rattle.casts.specs.Same.{unsigned}
use Rattle.casts.proofs.Error.{round_unsigned}
use Rattle.casts.proofs.Exact.{round_own}

zero_least : (x : Float) → T (unsigned x) → T (le (fin false 0 (pos 0)) x)
unfolding le
zero_least nan p = p
zero_least (inf true) p = p
zero_least (inf false) p = tt
zero_least (fin true n d) p = absurd p
zero_least (fin false n d) p = says_le false (0 * up (pos 0) * down d) false (n * up d * down (pos 0)) (le_trans (le_of_eq (zero-mul (down d))) zero-le)

inf_most : (x : Float) → T (unsigned x) → T (le x (inf false))
unfolding le
inf_most nan p = p
inf_most (inf true) p = absurd p
inf_most (inf false) p = tt
inf_most (fin true n d) p = absurd p
inf_most (fin false n d) p = tt

-- ---- a quotient
module _ (m : ℕ) (e : ℤ) where
  quotient_is : (n : ℕ) (d : ℤ) → T (ltb 0 n) → round binary64 false (m * up e * down d) (n * up d * down e) ≡ fin false m e ⊘ fin false n d
  unfolding div
  quotient_is n d p = go (eqb n 0) (eqb→eq n 0)
    where
      go : (b : Bool) → (T b → n ≡ 0) → round binary64 false (m * up e * down d) (n * up d * down e)
          ≡ cond b (cond (eqb m 0) nan (inf false)) (round binary64 false (m * up e * down d) (n * up d * down e))
      go true z = absurd (omega (arith, ltb→lt 0 n p, z tt))
      go false z = refl

  over_inf : fin false m e ⊘ inf false ≡ fin false 0 (pos 0)
  unfolding div
  over_inf = refl

  pub quotient_unsigned : (t : Float) → T (above t) → T (unsigned (fin false m e ⊘ t))
  quotient_unsigned nan p = absurd p
  quotient_unsigned (inf true) p = absurd p
  quotient_unsigned (inf false) p = subst (λ (x : Float). T (unsigned x)) (sym over_inf) tt
  quotient_unsigned (fin true n d) p = absurd p
  quotient_unsigned (fin false n d) p = subst (λ (x : Float). T (unsigned x)) (quotient_is n d p) (round_unsigned binary64 (m * up e * down d) (n * up d * down e))

  divisors : (n n' d d' : ℕ) → n * d' ≤ n' * d → m * up e * d' * (n * down e) ≤ m * up e * d * (n' * down e)
  divisors n n' d d' h = simp (mul_assoc, mul_comm, mul_left_comm) (simp (mul_assoc, mul_comm, mul_left_comm) at (mul-le-mul_right (m * up e * down e) h))

  pub quotient_falls : (t t' : Float) → T (above t) → T (above t') → T (le t t') → T (le (fin false m e ⊘ t') (fin false m e ⊘ t))
  quotient_falls nan t' p q h = absurd p
  quotient_falls (inf true) t' p q h = absurd p
  quotient_falls (inf false) nan p q h = absurd q
  quotient_falls (inf false) (inf true) p q h = absurd q
  quotient_falls (inf false) (inf false) p q h = rw over_inf (zero_least (fin false 0 (pos 0)) tt)
  quotient_falls (inf false) (fin s n d) p q h = absurd (unfold le in h)
  quotient_falls (fin true n d) t' p q h = absurd p
  quotient_falls (fin false n d) nan p q h = absurd q
  quotient_falls (fin false n d) (inf true) p q h = absurd q
  quotient_falls (fin false n d) (inf false) p q h = rw over_inf (zero_least (fin false m e ⊘ fin false n d) (quotient_unsigned (fin false n d) p))
  quotient_falls (fin false n d) (fin true n' d') p q h = absurd q
  quotient_falls (fin false n d) (fin false n' d') p q h =
      rw (← quotient_is n d p, ← quotient_is n' d' q)
      (round_mono binary64 (m * up e * down d') (n' * up d' * down e) (m * up e * down d) (n * up d * down e)
      (mul-pos (mul-pos (ltb→lt 0 n' q) (up_pos d')) (down_pos e)) (mul-pos (mul-pos (ltb→lt 0 n p) (up_pos d)) (down_pos e))
      (divisors (n * up d) (n' * up d') (down d) (down d') (le_cross n d n' d' h)))

-- ---- a sum
addends : (k g n n' d d' : ℕ) → n * d' ≤ n' * d → (k * d + n * g) * (g * d') ≤ (k * d' + n' * g) * (g * d)
addends k g n n' d d' h =
    let a : k * d * (g * d') ≤ k * d' * (g * d) = le_of_eq (simp (mul_assoc, mul_comm, mul_left_comm)) in
    let b : n * g * (g * d') ≤ n' * g * (g * d) = simp (mul_assoc, mul_comm, mul_left_comm) (simp (mul_assoc, mul_comm, mul_left_comm) at (mul-le-mul_right (g * g) h)) in
    le_trans (le_of_eq (add-mul (k * d) (n * g) (g * d'))) (le_trans (add-le-add a b) (le_of_eq (sym (add-mul (k * d') (n' * g) (g * d)))))

pub sum_grows : (j q q' : Float) → T (above j) → T (unsigned q) → T (unsigned q') → T (le q q') → T (le (j ⊕ q) (j ⊕ q'))
unfolding add
sum_grows nan q q' p u u' h = absurd p
sum_grows (inf true) q q' p u u' h = absurd p
sum_grows (inf false) nan q' p u u' h = absurd u
sum_grows (inf false) (inf true) q' p u u' h = absurd u
sum_grows (inf false) (inf false) nan p u u' h = absurd u'
sum_grows (inf false) (inf false) (inf true) p u u' h = absurd u'
sum_grows (inf false) (inf false) (inf false) p u u' h = inf_most (inf false) tt
sum_grows (inf false) (inf false) (fin s n d) p u u' h = inf_most (inf false) tt
sum_grows (inf false) (fin s n d) nan p u u' h = absurd u'
sum_grows (inf false) (fin s n d) (inf true) p u u' h = absurd u'
sum_grows (inf false) (fin s n d) (inf false) p u u' h = inf_most (inf false) tt
sum_grows (inf false) (fin s n d) (fin s' n' d') p u u' h = inf_most (inf false) tt
sum_grows (fin true k g) q q' p u u' h = absurd p
sum_grows (fin false k g) nan q' p u u' h = absurd u
sum_grows (fin false k g) (inf true) q' p u u' h = absurd u
sum_grows (fin false k g) (inf false) nan p u u' h = absurd u'
sum_grows (fin false k g) (inf false) (inf true) p u u' h = absurd u'
sum_grows (fin false k g) (inf false) (inf false) p u u' h = inf_most (inf false) tt
sum_grows (fin false k g) (inf false) (fin s n d) p u u' h = absurd (unfold le in h)
sum_grows (fin false k g) (fin true n d) q' p u u' h = absurd u
sum_grows (fin false k g) (fin false n d) nan p u u' h = absurd u'
sum_grows (fin false k g) (fin false n d) (inf true) p u u' h = absurd u'
sum_grows (fin false k g) (fin false n d) (inf false) p u u' h = inf_most _ (round_unsigned binary64 (k * up g * down d + n * up d * down g) (down g * down d))
sum_grows (fin false k g) (fin false n d) (fin true n' d') p u u' h = absurd u'
sum_grows (fin false k g) (fin false n d) (fin false n' d') p u u' h =
    round_mono binary64 (k * up g * down d + n * up d * down g) (down g * down d) (k * up g * down d' + n' * up d' * down g) (down g * down d')
    (mul-pos (down_pos g) (down_pos d)) (mul-pos (down_pos g) (down_pos d'))
    (addends (k * up g) (down g) (n * up d) (n' * up d') (down d) (down d') (le_cross n d n' d' h))

plus_zero : (j : Float) → T (above j) → T (fits binary64 j) → j ⊕ fin false 0 (pos 0) ≡ j
unfolding add
plus_zero nan p f = absurd p
plus_zero (inf s) p f = refl
plus_zero (fin true k g) p f = absurd p
plus_zero (fin false k g) p f = subst (λ (a : ℕ). round binary64 false a (down g * 1) ≡ fin false k g) (sym (omega arith)) (subst (λ (c : ℕ). round binary64 false (k * up g) c ≡ fin false k g) (sym (mul-one (down g))) (round_own binary64 false k g f))

pub sum_from : (j q : Float) → T (above j) → T (fits binary64 j) → T (unsigned q) → T (le j (j ⊕ q))
sum_from j q p f u = subst (λ (x : Float). T (le x (j ⊕ q))) (plus_zero j p f) (sum_grows j (fin false 0 (pos 0)) q p tt u (zero_least q u))

-- ---- a square
pub square_unsigned : (v : Float) → T (not (is_nan (v ⊗ v))) → T (unsigned (v ⊗ v))
unfolding mul is_nan
square_unsigned nan h = absurd h
square_unsigned (inf true) h = tt
square_unsigned (inf false) h = tt
square_unsigned (fin true m e) h = round_unsigned binary64 (m * up e * (m * up e)) (down e * down e)
square_unsigned (fin false m e) h = round_unsigned binary64 (m * up e * (m * up e)) (down e * down e)

-- ---- what holds no order
pub over_nan : (z : Float) → z ⊘ nan ≡ nan
unfolding div
over_nan nan = refl
over_nan (inf s) = refl
over_nan (fin s m e) = refl

pub nan_over : (x : Float) → nan ⊘ x ≡ nan
unfolding div
nan_over x = refl

pub plus_nan : (j : Float) → j ⊕ nan ≡ nan
unfolding add
plus_nan nan = refl
plus_nan (inf s) = refl
plus_nan (fin s m e) = refl

pub inf_over : (s : Bool) (j x : Float) → inf s ⊘ (j ⊕ inf s ⊘ x) ≡ nan
unfolding div add
inf_over s j nan = rw plus_nan
inf_over s j (inf t) = rw plus_nan
inf_over s nan (fin t n d) = refl
inf_over s (inf u) (fin t n d) = either (beq u (unlike s t))
  where
    either : (b : Bool) → inf s ⊘ cond b (inf u) nan ≡ nan
    either true = refl
    either false = refl
inf_over s (fin u m e) (fin t n d) = refl
