-- A setup out of eight f32 (corner or night corner, day corner, night drive, day drive, swell rate, swell depth, daylight, rain), four f64
-- (fixed drive, gain in, gain out, send) and flags (1 graded, 2 pad, 4 rain-darkened, 8 ducked). Definitions only.
use Rattle.std.specs.Prelude.{ℕ, ◌/◌, ◌%◌, Bool, cond, List, eqb, get_or, Option, None, Some, Float}
use Rattle.std.specs.Float.{nan}
use Rattle.automation.specs.declared.Tone.{Tone}
use Rattle.automation.specs.declared.Tone.TheVariants.{Fixed, Graded}
use Rattle.oscillators.specs.declared.Pad.{Pad}
use Rattle.tape.specs.declared.TapeSetup.{TapeSetup}
use Rattle.strip.specs.declared.Setup.{Setup}

abbrev pub number_at : List Float → ℕ → Float
number_at xs k = get_or xs k nan

unfoldable pub tone_of : List Float → Float → Bool → Tone
tone_of singles drive graded = cond graded (Graded (number_at singles 0) (number_at singles 1) (number_at singles 2) (number_at singles 3)) (Fixed (number_at singles 0) drive)

unfoldable pub pad_of : Float → Float → Bool → Option Pad
pad_of hz depth pad = cond pad (Some (record { hz = hz; depth = depth })) None

unfoldable pub tape_setup_of : List Float → List Float → ℕ → TapeSetup
tape_setup_of singles doubles flags =
    record {
      tone = tone_of singles (number_at doubles 0) (eqb (flags % 2) 1);
      pad = pad_of (number_at singles 4) (number_at singles 5) (eqb (flags / 2 % 2) 1);
      darkened = eqb (flags / 4 % 2) 1;
      input = number_at doubles 1;
      output = number_at doubles 2;
      ducked = eqb (flags / 8 % 2) 1;
    }

unfoldable pub setup_of : List Float → List Float → ℕ → Setup
setup_of singles doubles flags = record { tape = tape_setup_of singles doubles flags; daylight = number_at singles 6; rain = number_at singles 7; send = number_at doubles 3 }
