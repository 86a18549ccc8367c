-- A lane written out, its numbers in the order in which harness/vectors has them. Definitions only.
use Prim.Native.Nat.{ℕ}
use mathlib.Core.Bool.{Bool}
use mathlib.Core.List.{List}
use lib.Ieee.{Float}
use Rattle.ramp.specs.declared.Ramp.{Ramp}
use Rattle.ramp.specs.declared.Shape.TheVariants.{Linear}
use Rattle.onepole.specs.declared.OnePole.{OnePole}
use Rattle.biquad.specs.declared.Section.{Section}
use Rattle.tape.specs.Tape.{Lists}
use Rattle.strip.specs.declared.Setup.{Setup}
use Rattle.strip.specs.Machine.{LaneMachine}
use Rattle.played.proofs.Apart.{At, at}

abbrev pub line : Float → Float → ℕ → ℕ → Ramp
line from to start len = record { from = from; to = to; start = start; len = len; shape = Linear }

abbrev pub section : Float → Float → Float → Float → Float → Float → Float → Float → Float → Section
section b0 b1 b2 a1 a2 x1 x2 y1 y2 = record { b0 = b0; b1 = b1; b2 = b2; a1 = a1; a2 = a2; x1 = x1; x2 = x2; y1 = y1; y2 = y2 }

abbrev pub pole : Float → Float → OnePole
pole p y = record { pole = p; y = y }

-- position, setup and lists, daylight and rain; the tone's two sections, the bump, the rolloff's two; the warp, newest first; the tilt; the marks
abbrev pub lane : ℕ → Setup → Lists → Ramp → Ramp → Section → Section → Section → Section → Section → List Float → OnePole → List Bool → At LaneMachine
lane n setup lists daylight rain tone1 tone2 bump rolloff1 rolloff2 warp tilt marks =
    at n
    (record {
      setup = setup;
      lists = lists;
      daylight = daylight;
      rain = rain;
      tape =
          record {
            tone = record { first = tone1; second = tone2 };
            warp = warp;
            equalizer = record { bump = bump; rolloff = record { first = rolloff1; second = rolloff2 }; tilt = tilt };
            marks = marks;
          };
    })
