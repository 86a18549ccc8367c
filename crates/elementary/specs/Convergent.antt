-- The convergents of the continued fraction that TANH's steps compute: TANH(v) is v over the 40th. The code takes an earlier one where it can tell that it is the same. Definitions only.
use Rattle.std.specs.Prelude.{ℕ, ◌+◌, ◌*◌, cond, from_bits, Float}
use Rattle.std.specs.Float.{binary64}
use Rattle.std.specs.Float.Ieee.{le}
use Rattle.casts.specs.Arithmetic.{whole, one}
use Rattle.elementary.specs.Elementary.{down, tanh_step}

-- "t = 81, for odd j = 79 down to 1, t = j + z/t", with n steps for 40, from 2n + 1 on: 1 + z/(3 + z/(5 + .. z/(2n + 1)))
unfoldable pub convergent : Float → ℕ → Float
unfolding down
convergent z n = down (tanh_step z) n (whole (2 * n + 1))

-- 4, 16, 64
abbrev pub four : Float
four = from_bits binary64 0x4010_0000_0000_0000

abbrev pub sixteen : Float
sixteen = from_bits binary64 0x4030_0000_0000_0000

abbrev pub sixty_four : Float
sixty_four = from_bits binary64 0x4050_0000_0000_0000

-- For nearly every z this convergent is the 40th. Only speed hangs on the choice.
abbrev pub steps_for : Float → ℕ
steps_for z = cond (le z one) 10 (cond (le z four) 12 (cond (le z sixteen) 16 (cond (le z sixty_four) 21 32)))
