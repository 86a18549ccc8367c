-- Which attack has a table. Definitions only.
use Rattle.std.specs.Prelude.{ℕ, Bool, false, ◌&&◌, ◌==◌, to_bits, Float}
use Rattle.std.specs.Float.{binary64}
use Rattle.std.specs.Float.Ieee.{round}

-- "the strip's floor": 0.5011872336272724, which crate rate proves to be POW(10, −6/20)
abbrev pub strip_floor : Float
strip_floor = round binary64 false 5011872336272724 10000000000000000

-- "a table of 441 gains": 441 samples at the strip's floor, to the last bit
unfoldable pub tabled : Float → ℕ → Bool
tabled floor attack = attack == 441 && to_bits binary64 floor == to_bits binary64 strip_floor
