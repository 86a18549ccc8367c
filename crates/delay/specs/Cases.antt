-- Marked case i: "Line of greatest delay 2 after 1, 2, 3: tap −1 and 0 give 3; 0.5 gives 2.5; 9 gives 1." Assumes nothing.
use Rattle.std.specs.Prelude.{◌≡◌, List, replicate, refl, Float}
use Rattle.std.specs.Float.Ieee.{neg, of_bits, to_unsigned, lt, add, sub, mul, of_int}
use Rattle.std.specs.Float.{binary64}
use Rattle.casts.specs.Arithmetic.{whole, nought, half, one, two}
use Rattle.delay.specs.declared.DelayLine.{DelayLine}
use Rattle.delay.specs.Delay.{ring_of, power_from, push_of, at_of, tap_of, line_push, line_tap, store_push, store_tap}

-- as the list of its last samples
unfoldable pub line : List Float
line = push_of (ring_of 2) (push_of (ring_of 2) (push_of (ring_of 2) (replicate (ring_of 2) nought) one) two) (whole 3)

pub case_i : (tap_of (at_of line) two (neg one) ≡ whole 3) × (tap_of (at_of line) two nought ≡ whole 3) × (tap_of (at_of line) two half ≡ of_bits binary64 0x4004_0000_0000_0000) × (tap_of (at_of line) two (whole 9) ≡ one)
unfolding line ring_of power_from tap_of of_int add mul sub of_bits lt to_unsigned
case_i = (refl, refl, refl, refl)

-- as a ring
unfoldable pub ring : DelayLine
ring = record { at = 0; ring = ring_of 2 }

unfoldable pub store : List Float
unfolding ring
store = line_push ring (line_push ring (line_push ring (replicate (ring_of 2) nought) 0 one) 1 two) 2 (whole 3)

pub case_i_ring : (line_tap ring store 3 two (neg one) ≡ whole 3) × (line_tap ring store 3 two nought ≡ whole 3) × (line_tap ring store 3 two half ≡ of_bits binary64 0x4004_0000_0000_0000) × (line_tap ring store 3 two (whole 9) ≡ one)
unfolding ring store ring_of power_from tap_of store_push store_tap of_int add mul sub of_bits lt to_unsigned
case_i_ring = (refl, refl, refl, refl)
