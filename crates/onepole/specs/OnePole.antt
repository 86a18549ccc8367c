-- The one-pole low-pass, the tilt and its lift. Definitions only.
use Rattle.std.specs.Prelude.{ℕ, Bool, Float}
use Rattle.std.specs.Float.{binary32}
use Rattle.std.specs.Float.Ieee.{of_bits, neg, eq}
use Rattle.casts.specs.Arithmetic.{◌⊕◌, ◌⊖◌, ◌⊗◌, ◌⊘◌, whole, nought, one}
use Rattle.elementary.specs.Elementary.{EXP, TAU}
use Rattle.stream.specs.Stream.{flushed}
use Rattle.onepole.specs.declared.OnePole.{OnePole}
use Rattle.onepole.specs.declared.Tilted.{Tilted}

-- the analog pole at −2π·corner by z = e^(sT)
unfoldable pub pole_of : Float → ℕ → Float
pole_of corner rate = EXP (neg TAU ⊗ corner ⊘ whole rate)

-- "every filter's past is zero"
unfoldable pub one_pole_at : Float → OnePole
one_pole_at pole = record { pole = pole; y = nought }

-- "The one-pole keeps its pole and its last output."
unfoldable pub one_pole_step : OnePole → Float → OnePole
one_pole_step p x = record { pole = p.pole; y = flushed (p.pole ⊗ p.y ⊕ (one ⊖ p.pole) ⊗ x) }

-- "the tilt at 1,200 Hz with lift 0.8 or, if rain-darkened, by rain at n itself": x + lift·(x − lp(x))
unfoldable pub tilt_step : OnePole → Float → Float → Tilted
tilt_step p lift x =
    let lp = one_pole_step p x in
    record { lp = lp; out = x ⊕ lift ⊗ (x ⊖ lp.y) }

-- 0.8 and −0.098, f32 in the Rust
abbrev pub tilt_lift : Float
tilt_lift = of_bits binary32 0x3f4c_cccd

abbrev pub rain_tilt_lift : Float
rain_tilt_lift = of_bits binary32 0xbdc8_b439

-- the lift at a rain
unfoldable pub lift_of : Float → Float
lift_of rain = tilt_lift ⊕ (rain_tilt_lift ⊖ tilt_lift) ⊗ rain

-- "hold only zeros (−0 counts)"
unfoldable pub one_pole_at_rest : OnePole → Bool
one_pole_at_rest p = eq p.y nought
