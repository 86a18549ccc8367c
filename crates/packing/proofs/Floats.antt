-- An f32 among the numbers. Assumes nothing.
use mathlib.Core.Path.{◌≡◌, refl, ap, ◌∙◌, subst}
use mathlib.Core.Bool.{true}
use lib.Dec.{T}
use lib.Ieee.{Float, nan, inf, fin, binary32, binary64, fits, to_bits, of_bits}
use lib.Ieee.Bits.{of_bits-to_bits, to_bits-lt}
use Prim.Native.Nat.{ℕ, ◌/◌, ◌%◌, ◌<◌, ◌≤◌}
use borrow.Author.Tests.{eq-eqb}
use Rattle.casts.specs.Cast.{narrowed}
use Rattle.casts.proofs.Exact.{round_own}
use Rattle.casts.proofs.Widening.{fits_short}
use Rattle.packing.specs.Packing.{is_short}

pub narrowed_own : (x : Float) → T (fits binary32 x) → narrowed x ≡ x
unfolding narrowed
narrowed_own nan h = refl
narrowed_own (inf s) h = refl
narrowed_own (fin s m e) h = round_own binary32 s m e h

pub short_is : (x : Float) → T (fits binary32 x) → is_short x ≡ true
unfolding is_short
short_is x h = eq-eqb _ _ (ap (to_bits binary64) (narrowed_own x h))

-- the field of a normal f32, and no digit below an f32's
pub short_digits : (x : Float) → T (fits binary64 x) → (b : ℕ) → b ≡ to_bits binary64 x → b % 536870912 ≡ 0 → 897 ≤ b / 4503599627370496 % 2048 → b / 4503599627370496 % 2048 < 1151 → is_short x ≡ true
short_digits x h b e z lo hi =
    let wide : b < 18446744073709551616 = rw e (to_bits-lt binary64 x h) in
    short_is x (subst (λ (v : Float). T (fits binary32 v)) (ap (of_bits binary64) e ∙ of_bits-to_bits binary64 x h) (fits_short b wide lo hi z))
