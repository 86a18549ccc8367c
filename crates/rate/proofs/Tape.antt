-- The lane's numbers at 44,100 and at 48,000 Hz are usable; at 44,100 Hz the duck's attack has the table. Assumes nothing.
use mathlib.Core.Path.{◌≡◌, refl}
use mathlib.Core.Bool.{true}
use lib.Dec.{lit<, lit≤}
use lib.Ieee.{binary64, of_bits, to_bits, add, sub, mul, div, neg, le, lt, of_int, to_unsigned, to_signed, round}
use Rattle.casts.specs.Cast.{floored, two_to}
use Rattle.elementary.specs.Elementary.{EXP, LN, POW, down}
use Rattle.stream.specs.Stream.{gain_of_db}
use Rattle.attack.specs.Kept.{tabled}
use Rattle.delay.specs.Delay.{ring_of, power_from}
use Rattle.rate.specs.Lengths.{ceil_of, rounded, samples_at}
use Rattle.rate.specs.Tape.{warp_of, wow_of, flutter_of, duck_rate, tape_rate, TapeUsable}

pub warp_44100 : (tape_rate 44100).warp.ring ≡ 64
unfolding tape_rate warp_of wow_of flutter_of ceil_of ring_of power_from of_bits add mul div of_int
warp_44100 = refl

pub tape_44100 : TapeUsable (tape_rate 44100)
unfolding tape_rate warp_of wow_of flutter_of ceil_of ring_of power_from of_bits add mul div le lt of_int to_unsigned
tape_44100 = record { hz = lit< tt; placed = refl; warp = record { some = lit< tt; small = lit≤ tt; even = refl }; reach = record { low = tt; high = tt }; within = lit< tt }

pub tape_48000 : TapeUsable (tape_rate 48000)
unfolding tape_rate warp_of wow_of flutter_of ceil_of ring_of power_from of_bits add mul div le lt of_int to_unsigned
tape_48000 = record { hz = lit< tt; placed = refl; warp = record { some = lit< tt; small = lit≤ tt; even = refl }; reach = record { low = tt; high = tt }; within = lit< tt }

-- "attack 441, release 8,379, floor POW(10, −6/20)"; the floor stands by its bits, since antt's steps do not suffice to compare it with a quotient
pub duck_44100 : duck_rate 44100 ≡ record { attack = 441; release = 8379; floor = of_bits binary64 0x3fe0_09b9_cf33_4253 }
unfolding duck_rate samples_at rounded gain_of_db POW EXP LN down floored two_to round of_bits to_bits add sub mul div neg le lt of_int to_unsigned to_signed
duck_44100 = refl

-- 02, E2: the strip's attack has the table
pub tabled_44100 : tabled (duck_rate 44100).floor (duck_rate 44100).attack ≡ true
unfolding tabled round of_bits to_bits
tabled_44100 = rw duck_44100
