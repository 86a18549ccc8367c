-- Document 01, 'One sample through the lane', step 4: the pad's swell and the warp's delay. Definitions only.
use Rattle.std.specs.Prelude.{ℕ, Option, None, Some, Float}
use Rattle.std.specs.Float.{binary32}
use Rattle.std.specs.Float.Ieee.{add, mul}
use Rattle.casts.specs.Arithmetic.{◌⊖◌, ◌⊗◌, ◌⊘◌, whole, one}
use Rattle.casts.specs.Cast.{narrowed, floored}
use Rattle.elementary.specs.Elementary.{SIN, SIN32, TAU}
use Rattle.rate.specs.declared.TapeRate.{TapeRate}
use Rattle.oscillators.specs.declared.Pad.{Pad}

-- "Times the product swell · gain in, swell being 1 without a pad." The phase is reduced to one cycle before it is narrowed
unfoldable pub phase_of : ℕ → Float → ℕ → Float
phase_of rate hz n =
    let cycles = hz ⊗ whole n ⊘ whole rate in
    narrowed (TAU ⊗ (cycles ⊖ floored cycles))

-- in f32: 1 + depth · sin(phase)
unfoldable pub swell_of : ℕ → Option Pad → ℕ → Float
swell_of rate None n = one
swell_of rate (Some pad) n = add binary32 one (mul binary32 pad.depth (SIN32 (phase_of rate pad.hz n)))

-- "Warp read at a delay of reach less each a·SIN(w·n) in turn, in table order"
unfoldable pub warp_delay : TapeRate → ℕ → Float
warp_delay r n = r.reach ⊖ r.wow.a ⊗ SIN (r.wow.w ⊗ whole n) ⊖ r.flutter.a ⊗ SIN (r.flutter.w ⊗ whole n)

-- the swell whose sine is s, in f32
abbrev pub swelled : Float → Float → Float
swelled depth s = add binary32 one (mul binary32 depth (narrowed s))
