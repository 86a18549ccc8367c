-- Marked case a, as 02 reworks it, and the zeros. antt computes each. Assumes nothing.
use Rattle.std.specs.Prelude.{◌≡◌, refl, ℕ, Float}
use Rattle.std.specs.Float.{nan, binary64}
use Rattle.std.specs.Float.Ieee.{of_bits, neg, lt, round}
use Rattle.casts.specs.Arithmetic.{nought, size_of}
use Rattle.stream.specs.Stream.{flushed}

abbrev number : ℕ → Float
number bits = of_bits binary64 bits

-- "a. Flush: 1e-20 stays, the f64 below it gives 0, NaN stays.", which 02's E5 reworks at the new floor, 2^-64
pub case_a : (flushed (number 0x3bf0_0000_0000_0000) ≡ number 0x3bf0_0000_0000_0000) × (flushed (number 0x3bef_ffff_ffff_ffff) ≡ nought) × (flushed nan ≡ nan)
unfolding flushed size_of of_bits neg lt round
case_a = (refl, refl, refl)

-- the same below 0, and −0 becomes +0
pub below_nought : (flushed (number 0xbbf0_0000_0000_0000) ≡ number 0xbbf0_0000_0000_0000) × (flushed (number 0xbbef_ffff_ffff_ffff) ≡ nought) × (flushed (neg nought) ≡ nought)
unfolding flushed size_of of_bits neg lt round
below_nought = (refl, refl, refl)
