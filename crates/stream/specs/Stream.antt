-- Flush, and decibels as a gain. Definitions only.
use Rattle.std.specs.Prelude.{◌^◌, false, cond, Float}
use Rattle.std.specs.Float.{binary64}
use Rattle.std.specs.Float.Ieee.{round, lt}
use Rattle.casts.specs.Arithmetic.{◌⊘◌, whole, nought, size_of}
use Rattle.elementary.specs.Elementary.{POW}

-- 2^-64, as 1 / 2^64
abbrev pub flush_floor : Float
flush_floor = round binary64 false 1 (2 ^ 64)

-- document 02, E5: "Sizes strictly below 2^-64 now become 0, in every filter, one-pole, allpass and plate delay. 2^-64 and NaN stay."
unfoldable pub flushed : Float → Float
flushed v = cond (lt (size_of v) flush_floor) nought v

-- db decibels as an amplitude gain: "POW(10, −6/20)" is that of −6
unfoldable pub gain_of_db : Float → Float
gain_of_db db = POW (whole 10) (db ⊘ whole 20)
