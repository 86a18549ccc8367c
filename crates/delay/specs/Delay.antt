-- A delay line: the list of its last R samples, newest first, and the same line as a ring of R places of a store. Definitions only.
use Rattle.std.specs.Prelude.{◌≡◌, ℕ, zero, suc, ◌+◌, ◌-◌, ◌*◌, ◌%◌, ◌^◌, ◌<◌, ◌≤◌, Bool, true, false, cond, T, List, [], ◌∷◌, length, take, from_bits, nat_le, slice_index_or, slice_set, Float}
use Rattle.std.specs.Float.{nan, binary64}
use Rattle.std.specs.Float.Ieee.{lt, le, eq, to_unsigned}
use Rattle.casts.specs.Arithmetic.{◌⊕◌, ◌⊖◌, ◌⊗◌, whole, nought, one}
use Rattle.delay.specs.declared.DelayLine.{DelayLine}

-- "R is the least power of two not below D + 2, D being the greatest delay rounded up"
unfoldable pub power_from : ℕ → ℕ → ℕ → ℕ
power_from zero p m = p
power_from (suc k) p m = cond (nat_le m p) p (power_from k (2 * p) m)

unfoldable pub ring_of : ℕ → ℕ
unfolding power_from
ring_of d = power_from 64 1 (d + 2)

-- ---- a line as the list of its last R samples, newest first

abbrev pub push_of : ℕ → List Float → Float → List Float
push_of r line x = take r (x ∷ line)

abbrev pub at_of : List Float → ℕ → Float
at_of line delay = slice_index_or line delay nan

-- ---- a fractional delay, by any reading of whole delays

-- x where it is above y, else y; and x where it is below y, else y. Each gives y for a NaN x
abbrev pub not_below : Float → Float → Float
not_below x y = cond (lt y x) x y

abbrev pub not_above : Float → Float → Float
not_above x y = cond (lt x y) x y

-- the Rust's `delay.max(0.0).min(max_delay)`, in which only the delay may be NaN, and then stands for 0
unfoldable pub tap_of : (ℕ → Float) → Float → Float → Float
tap_of read most delay =
    let d = not_above (not_below delay nought) most in
    let k = to_unsigned 64 d in
    let frac = d ⊖ whole k in
    (one ⊖ frac) ⊗ read k ⊕ frac ⊗ read (k + 1)

-- what `tap` asks of a greatest delay: not below 0, and below 65,536
pub record Reach (most : Float) : Type 0 where
  pub low : T (le nought most)
  pub high : T (lt most (from_bits binary64 0x40f0_0000_0000_0000))

-- ---- the line as a ring, the sample with the count n lying at n % R
-- "wrapping subtract of delay and one from the u64 count, then reduced into the ring"
abbrev pub back : ℕ → ℕ → ℕ
back n delay = (n + (2 ^ 64 - (delay + 1))) % 2 ^ 64

abbrev pub pushed : List Float → ℕ → Float → List Float
pushed ring n x = slice_set ring (n % length ring) x

abbrev pub tapped : List Float → ℕ → ℕ → Float
tapped ring n delay = slice_index_or ring (back n delay % length ring) nan

-- the same over a store, the ring being its r places from base on
unfoldable pub store_push : ℕ → ℕ → List Float → ℕ → Float → List Float
store_push base r s n x = slice_set s (base + n % r) x

unfoldable pub store_tap : ℕ → ℕ → List Float → ℕ → ℕ → Float
store_tap base r s n delay = slice_index_or s (base + back n delay % r) nan

abbrev pub line_push : DelayLine → List Float → ℕ → Float → List Float
line_push l s n x = store_push l.at l.ring s n x

abbrev pub line_at : DelayLine → List Float → ℕ → ℕ → Float
line_at l s n delay = store_tap l.at l.ring s n delay

abbrev pub line_tap : DelayLine → List Float → ℕ → Float → Float → Float
line_tap l s n most delay = tap_of (store_tap l.at l.ring s n) most delay

-- ---- the ring read newest first, n samples written: c samples from the one that lies d before the newest
unfoldable pub history : ℕ → ℕ → List Float → ℕ → ℕ → ℕ → List Float
history base r s n zero d = []
history base r s n (suc c) d = store_tap base r s n d ∷ history base r s n c (d + 1)

abbrev pub line_of : DelayLine → List Float → ℕ → List Float
line_of l s n = history l.at l.ring s n l.ring 0

-- "hold only zeros (−0 counts)"
unfoldable pub all_zero : List Float → Bool
all_zero [] = true
all_zero (x ∷ xs) = cond (eq x nought) (all_zero xs) false

-- what the laws of a line ask of its ring
pub record Usable (l : DelayLine) : Type 0 where
  pub some : 0 < l.ring
  pub small : l.ring ≤ 65536
  pub even : 2 ^ 64 % l.ring ≡ 0
