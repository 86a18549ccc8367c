-- Document 01, 'When the part declines': each ground as a test that is true where the part does not decline, and the refusals' numbers. Their order, a list for each call, stands in Calls.
use Rattle.std.specs.Prelude.{ℕ, ◌+◌, ◌*◌, Bool, true, ◌&&◌, List, leb, eqb, length, Option, None, Some, Float}
use Rattle.std.specs.Float.{binary64}
use Rattle.std.specs.Float.Ieee.{of_bits, neg}
use Rattle.casts.specs.Arithmetic.{whole, nought, one}
use Rattle.ranges.specs.Ranges.{most_points, most_kicks, last_position, in_range, all_in_range, rising_from}
use Rattle.ramp.specs.declared.Ramp.{Ramp}
use Rattle.automation.specs.declared.Tone.{Tone}
use Rattle.automation.specs.declared.Tone.TheVariants.{Fixed, Graded}
use Rattle.oscillators.specs.declared.Pad.{Pad}
use Rattle.tape.specs.declared.TapeSetup.{TapeSetup}
use Rattle.tape.specs.Tape.{Lists}
use Rattle.rate.specs.declared.Rate.{Rate}
use Rattle.strip.specs.declared.Setup.{Setup}
use Rattle.strip.specs.declared.Controls.{Controls}
use Rattle.strip.specs.declared.Refusal.{Refusal}
use Rattle.strip.specs.declared.Refusal.TheVariants.{StoreShort, BadSetup, BadList, BadStrip, BadOutput, PastEnd, BadSample, BadControl}

-- "1. A lent store is shorter than 49,152 f64 or 4,096 u64 (all calls)."
unfoldable pub long_enough : Rate → List Float → List ℕ → Bool
long_enough r store counts = leb r.samples (length store) && leb r.counts (length counts)

-- "2. A setup number is NaN or outside its range (open)."
-- "corner 20 to 20,000 Hz (f32)"
unfoldable pub ok_corner : Float → Bool
ok_corner x = in_range (whole 20) (whole 20000) x

-- "drive 0.1 to 8"
unfoldable pub ok_drive : Float → Bool
ok_drive x = in_range (of_bits binary64 0x3fb9_9999_9999_999a) (whole 8) x

-- "0 to 1"
unfoldable pub ok_unit : Float → Bool
ok_unit x = in_range nought one x

-- "a tone is either fixed, with one corner and one drive (f64), or graded between two of each (f32)"
unfoldable pub ok_tone : Tone → Bool
ok_tone (Fixed corner drive) = ok_corner corner && ok_drive drive
ok_tone (Graded nightCorner dayCorner nightDrive dayDrive) = ok_corner nightCorner && (ok_corner dayCorner && (ok_drive nightDrive && ok_drive dayDrive))

-- "optional pad with swell rate 0 to 20 Hz and depth 0 to 1 (f32)"
unfoldable pub ok_pad : Option Pad → Bool
ok_pad None = true
ok_pad (Some pad) = in_range nought (whole 20) pad.hz && ok_unit pad.depth

-- "gains in and out 0 to 16"
unfoldable pub ok_gain : Float → Bool
ok_gain x = in_range nought (whole 16) x

unfoldable pub ok_tape : TapeSetup → Bool
ok_tape s = ok_tone s.tone && (ok_pad s.pad && (ok_gain s.input && ok_gain s.output))

-- "daylight and rain 0 to 1 (f32); send level 0 to 1"
unfoldable pub ok_setup : Setup → Bool
ok_setup s = ok_tape s.tape && (ok_unit s.daylight && (ok_unit s.rain && ok_unit s.send))

-- "3. A list is too long, falls, has positions and values unequal in number, a value outside 0 to 1 or NaN, or a position above 2^32 (open)."
-- "At most 256 sweep points (position, value 0 to 1) and 1,024 kick positions, each list never falling, positions at most 2^32."
unfoldable pub ok_points : List ℕ → List Float → Bool
ok_points positions values = leb (length positions) most_points && (eqb (length positions) (length values) && (rising_from 0 positions && all_in_range nought one values))

unfoldable pub ok_kicks : List ℕ → Bool
ok_kicks kicks = leb (length kicks) most_kicks && rising_from 0 kicks

unfoldable pub ok_lists : Lists → Bool
ok_lists l = ok_points l.positions l.values && ok_kicks l.kicks

-- "4. .. a ramp's start or length above 2^32"
unfoldable pub ok_ramp : Ramp → Bool
ok_ramp r = leb r.start last_position && leb r.len last_position

-- "5. The frame output isn't exactly 2 f32 a sample, or the count output 1 u64 a sample (run)."
unfoldable pub ok_outputs : ℕ → ℕ → ℕ → Bool
ok_outputs samples frames gains = eqb frames (2 * samples) && eqb gains samples

-- "6. Position plus samples exceeds 2^32 (run)."
unfoldable pub ok_end : ℕ → ℕ → Bool
ok_end position samples = leb (position + samples) last_position

-- "7. A sample is not finite or its size exceeds 1,024 (run)."
unfoldable pub ok_samples : List Float → Bool
ok_samples xs = all_in_range (neg (whole 1024)) (whole 1024) xs

-- "8. A control is NaN or outside 0 to 1, or a ramp length exceeds 2^32 (latch)."
unfoldable pub ok_controls : Controls → Bool
ok_controls c = ok_unit c.daylight && (ok_unit c.rain && (leb c.grading last_position && leb c.darkening last_position))

-- the numbers of these sentences
abbrev pub number_of : Refusal → ℕ
number_of StoreShort = 1
number_of BadSetup = 2
number_of BadList = 3
number_of BadStrip = 4
number_of BadOutput = 5
number_of PastEnd = 6
number_of BadSample = 7
number_of BadControl = 8
