-- Marked cases b, c and d. antt computes the numbers. Assumes nothing.
use Rattle.std.specs.Prelude.{◌≡◌, ℕ, true, refl, Float}
use Rattle.std.specs.Float.{binary64}
use Rattle.std.specs.Float.Ieee.{of_bits, of_int, add, sub, mul, div, eq}
use Rattle.casts.specs.Arithmetic.{nought, half, one}
use Rattle.ramp.specs.declared.Shape.TheVariants.{Linear}
use Rattle.ramp.specs.declared.Ramp.{Ramp}
use Rattle.ramp.specs.Ramp.{held, shaped, ramp_at, toward}

-- "Ramp 0, toward 1 at 0 over 100"
unfoldable pub rising : Ramp
rising = toward (held nought Linear) 0 one 100

-- "b. .. at 50, 0.5; at 100, 1."
pub case_b : (ramp_at rising 50 ≡ half) × (ramp_at rising 100 ≡ one)
unfolding rising ramp_at toward held shaped of_bits of_int add sub mul div eq
case_b = (refl, refl)

-- "c. That ramp toward 0 at 50 over 4: at 52, 0.25."
pub case_c : ramp_at (toward rising 50 nought 4) 52 ≡ of_bits binary64 0x3fd0_0000_0000_0000
unfolding rising ramp_at toward held shaped of_bits of_int add sub mul div eq
case_c = refl

-- "d. Toward an equal target: unchanged."
pub case_d : (r : Ramp) (n : ℕ) (to : Float) (len : ℕ) → eq r.to to ≡ true → toward r n to len ≡ r
unfolding toward
case_d r n to len e = rw e
