-- A side within the sheet value's bound narrows to at most the limit, so that the clamp leaves it as it is. Assumes nothing.
use Rattle.std.proofs.Common.{◌≡◌, ℕ, ◌+◌, ◌*◌, ◌^◌, Bool, true, false, T, ltb, ℤ, sym, subst, le_trans, le_of_eq, mul_assoc, mul_comm, mul-pos, pow_pos, le-ltb}
use lib.Ieee.{Float, nan, inf, fin, binary32, up, down, round, neg, lt, le}
use lib.Ieee.Fits.{down_pos}
use lib.Ieee.Order.{round_mono}
use lib.Ieee.Positive.{num, den}
use Rattle.casts.specs.Cast.{narrowed}
use Rattle.casts.specs.Order.{le_cross}
use Rattle.casts.proofs.Error.{round_neg, round_unsigned}
use Rattle.rate.specs.Ceiling.{plain}
use Rattle.master.specs.Ceiling.{clamped}
use Rattle.master.specs.SheetValue.{SideBound}
use Rattle.master.proofs.Sizes.{plain_under}

-- ---- a plain value of at most the limit, with either sign
module _ (M : ℕ) (E : ℤ) where
  abbrev limit : Float
  limit = fin false M E

  stays : (y : Float) → T (plain y) → T (le y limit) → (clamped limit y ≡ y) × (clamped limit (neg y) ≡ neg y)
  unfolding clamped lt neg
  stays nan p h = absurd p
  stays (inf s) p h = absurd p
  stays (fin true n d) p h = absurd p
  stays (fin false n d) p h =
      let e : ltb (M * up E * down d) (n * up d * down E) ≡ false = le-ltb (M * up E * down d) (n * up d * down E) (le_cross n d M E h) in
      (rw e, rw e)

  -- ---- the bound
  pub bound_unclamped : round binary32 false (num limit * (2 ^ 51 + 1)) (den limit * 2 ^ 51) ≡ limit → (x : Float) → SideBound limit x → clamped limit (narrowed x) ≡ narrowed x
  unfolding narrowed
  bound_unclamped e nan w = absurd w.is_finite
  bound_unclamped e (inf s) w = absurd w.is_finite
  bound_unclamped e (fin s m g) w = go s
    where
      y : Float
      y = round binary32 false (m * up g) (down g)

      under : T (le y limit)
      under =
          subst (λ (z : Float). T (le y z)) e
          (round_mono binary32 (m * up g) (down g) (num limit * (2 ^ 51 + 1)) (den limit * 2 ^ 51) (down_pos g) (mul-pos (down_pos E) (pow_pos 51))
          (le_trans (le_of_eq (turn (m * up g) (den limit) (2 ^ 51))) w.size))
        where
          turn : (a l t : ℕ) → a * (l * t) ≡ a * t * l
          turn a l t = simp (mul_assoc, mul_comm)

      both : (clamped limit y ≡ y) × (clamped limit (neg y) ≡ neg y)
      both = stays y (plain_under y limit (round_unsigned binary32 (m * up g) (down g)) tt under) under

      go : (s : Bool) → clamped limit (round binary32 s (m * up g) (down g)) ≡ round binary32 s (m * up g) (down g)
      go false = both.0
      go true = subst (λ (z : Float). clamped limit z ≡ z) (sym (round_neg binary32 (m * up g) (down g))) both.1

pub unclamped_by : (limit : Float) → T (plain limit) → round binary32 false (num limit * (2 ^ 51 + 1)) (den limit * 2 ^ 51) ≡ limit → (x : Float) → SideBound limit x → clamped limit (narrowed x) ≡ narrowed x
unclamped_by nan p e x w = absurd p
unclamped_by (inf s) p e x w = absurd p
unclamped_by (fin true M E) p e x w = absurd p
unclamped_by (fin false M E) p e x w = bound_unclamped M E e x w
