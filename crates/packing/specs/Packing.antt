-- A strip as 87 numbers (f64) and 19 words (u64), part by part: each part has its own places, counted from its own start, and is read from a list that starts there.
-- An f32 stands among the numbers as the f64 of its value. A tag or a bool is 0 or 1; a number that its tag leaves out is packed as 0, and is not looked at when it is read back. Definitions only.
use Rattle.std.specs.Prelude.{ℕ, ◌+◌, Bool, true, false, cond, not, ◌&&◌, List, [], ◌∷◌, ◌++◌, leb, eqb, length, get_or, drop, Option, None, Some, Float, Result, Ok, Err}
use Rattle.std.specs.Float.{binary64}
use Rattle.std.specs.Float.Ieee.{to_bits}
use Rattle.casts.specs.Arithmetic.{nought}
use Rattle.casts.specs.Cast.{narrowed}
use Rattle.onepole.specs.declared.OnePole.{OnePole}
use Rattle.biquad.specs.declared.Section.{Section}
use Rattle.biquad.specs.declared.Lowpass.{Lowpass}
use Rattle.ramp.specs.declared.Shape.{Shape}
use Rattle.ramp.specs.declared.Shape.TheVariants.{Linear, Db}
use Rattle.ramp.specs.declared.Ramp.{Ramp}
use Rattle.automation.specs.declared.Tone.{Tone}
use Rattle.automation.specs.declared.Tone.TheVariants.{Fixed, Graded}
use Rattle.oscillators.specs.declared.Pad.{Pad}
use Rattle.duck.specs.declared.Duck.{Duck}
use Rattle.tape.specs.declared.Equalizer.{Equalizer}
use Rattle.tape.specs.declared.Tape.{Tape}
use Rattle.plate.specs.declared.Plate.{Plate}
use Rattle.setup.specs.Setup.{number_at}
use Rattle.strip.specs.declared.Setup.{Setup}
use Rattle.strip.specs.declared.Lane.{Lane}
use Rattle.strip.specs.declared.Bus.{Bus}
use Rattle.strip.specs.declared.Strip as strips
use Rattle.packing.specs.declared.UnpackError.{UnpackError}
use Rattle.packing.specs.declared.UnpackError.TheVariants.{Short, Malformed}

abbrev pub word_at : List ℕ → ℕ → ℕ
word_at ws k = get_or ws k 0

-- ---- a bool and a ramp's shape: a word

abbrev pub flagged : Bool → ℕ
flagged false = 0
flagged true = 1

abbrev pub flag_of : ℕ → Bool
flag_of w = not (eqb w 0)

abbrev pub shape_tag : Shape → ℕ
shape_tag Linear = 0
shape_tag Db = 1

unfoldable pub shape_of : ℕ → Shape
shape_of tag = cond (eqb tag 0) Linear Db

-- ---- a one-pole: pole and output

abbrev pub one_pole_long : ℕ
one_pole_long = 2

abbrev pub one_pole_numbers : OnePole → List Float
one_pole_numbers p = p.pole ∷ p.y ∷ []

abbrev pub one_pole_from : List Float → OnePole
one_pole_from ns = record { pole = number_at ns 0; y = number_at ns 1 }

-- ---- a section: five coefficients, two inputs, two outputs

abbrev pub section_long : ℕ
section_long = 9

abbrev pub section_numbers : Section → List Float
section_numbers s = s.b0 ∷ s.b1 ∷ s.b2 ∷ s.a1 ∷ s.a2 ∷ s.x1 ∷ s.x2 ∷ s.y1 ∷ s.y2 ∷ []

abbrev pub section_from : List Float → Section
section_from ns =
    record {
      b0 = number_at ns 0;
      b1 = number_at ns 1;
      b2 = number_at ns 2;
      a1 = number_at ns 3;
      a2 = number_at ns 4;
      x1 = number_at ns 5;
      x2 = number_at ns 6;
      y1 = number_at ns 7;
      y2 = number_at ns 8;
    }

-- ---- two sections, one after the other

abbrev pub lowpass_long : ℕ
lowpass_long = section_long + section_long

abbrev pub lowpass_numbers : Lowpass → List Float
lowpass_numbers l = section_numbers l.first ++ section_numbers l.second

unfoldable pub lowpass_from : List Float → Lowpass
lowpass_from ns = record { first = section_from ns; second = section_from (drop section_long ns) }

-- ---- a ramp: its ends; its start, its length and its shape

abbrev pub ramp_numbers_long : ℕ
ramp_numbers_long = 2

abbrev pub ramp_words_long : ℕ
ramp_words_long = 3

abbrev pub ramp_numbers : Ramp → List Float
ramp_numbers r = r.from ∷ r.to ∷ []

abbrev pub ramp_words : Ramp → List ℕ
ramp_words r = r.start ∷ r.len ∷ shape_tag r.shape ∷ []

unfoldable pub ramp_from : List Float → List ℕ → Ramp
ramp_from ns ws = record { from = number_at ns 0; to = number_at ns 1; start = word_at ws 0; len = word_at ws 1; shape = shape_of (word_at ws 2) }

abbrev pub ramp_fits : List ℕ → Bool
ramp_fits ws = leb (word_at ws 2) 1

-- ---- an f64 that has the value of an f32, and two neighbours

unfoldable pub is_short : Float → Bool
is_short x = eqb (to_bits binary64 (narrowed x)) (to_bits binary64 x)

unfoldable pub both_short : List Float → Bool
both_short ns = is_short (number_at ns 0) && is_short (number_at ns 1)

-- ---- a tone: four numbers and a tag. A fixed one's corner is an f32, and a graded one's four are

abbrev pub tone_long : ℕ
tone_long = 4

unfoldable pub tone_numbers : Tone → List Float
tone_numbers (Fixed corner drive) = corner ∷ drive ∷ nought ∷ nought ∷ []
tone_numbers (Graded nightCorner dayCorner nightDrive dayDrive) = nightCorner ∷ dayCorner ∷ nightDrive ∷ dayDrive ∷ []

abbrev pub tone_tag : Tone → ℕ
tone_tag (Fixed corner drive) = 0
tone_tag (Graded nightCorner dayCorner nightDrive dayDrive) = 1

unfoldable pub tone_from : List Float → ℕ → Tone
tone_from ns tag =
    cond (eqb tag 0)
    (Fixed (narrowed (number_at ns 0)) (number_at ns 1))
    (Graded (narrowed (number_at ns 0)) (narrowed (number_at ns 1)) (narrowed (number_at ns 2)) (narrowed (number_at ns 3)))

unfoldable pub tone_fits : List Float → ℕ → Bool
tone_fits ns tag = cond (eqb tag 0) (is_short (number_at ns 0)) (eqb tag 1 && (both_short ns && both_short (drop 2 ns)))

-- ---- a pad: two numbers, both f32, and a tag

abbrev pub pad_long : ℕ
pad_long = 2

unfoldable pub pad_numbers : Option Pad → List Float
pad_numbers None = nought ∷ nought ∷ []
pad_numbers (Some pad) = pad.hz ∷ pad.depth ∷ []

abbrev pub pad_tag : Option Pad → ℕ
pad_tag None = 0
pad_tag (Some pad) = 1

unfoldable pub pad_from : List Float → ℕ → Option Pad
pad_from ns tag = cond (eqb tag 0) None (Some (record { hz = narrowed (number_at ns 0); depth = narrowed (number_at ns 1) }))

unfoldable pub pad_fits : List Float → ℕ → Bool
pad_fits ns tag = cond (eqb tag 0) true (eqb tag 1 && both_short ns)

-- ---- a setup: tone, pad, gain in, gain out, daylight, rain, send; the tone's tag, the pad's, darkened, ducked

abbrev pub setup_numbers_long : ℕ
setup_numbers_long = tone_long + pad_long + 5

abbrev pub setup_words_long : ℕ
setup_words_long = 4

abbrev pub setup_numbers : Setup → List Float
setup_numbers s = tone_numbers s.tape.tone ++ (pad_numbers s.tape.pad ++ (s.tape.input ∷ s.tape.output ∷ s.daylight ∷ s.rain ∷ s.send ∷ []))

abbrev pub setup_words : Setup → List ℕ
setup_words s = tone_tag s.tape.tone ∷ pad_tag s.tape.pad ∷ flagged s.tape.darkened ∷ flagged s.tape.ducked ∷ []

unfoldable pub setup_from : List Float → List ℕ → Setup
setup_from ns ws =
    record {
      tape =
          record {
            tone = tone_from ns (word_at ws 0);
            pad = pad_from (drop tone_long ns) (word_at ws 1);
            darkened = flag_of (word_at ws 2);
            input = number_at ns 6;
            output = number_at ns 7;
            ducked = flag_of (word_at ws 3);
          };
      daylight = narrowed (number_at ns 8);
      rain = narrowed (number_at ns 9);
      send = number_at ns 10;
    }

abbrev pub flags_fit : List ℕ → Bool
flags_fit ws = leb (word_at ws 2) 1 && leb (word_at ws 3) 1

unfoldable pub setup_fits : List Float → List ℕ → Bool
setup_fits ns ws = tone_fits ns (word_at ws 0) && (pad_fits (drop tone_long ns) (word_at ws 1) && (both_short (drop 8 ns) && flags_fit ws))

-- ---- an equalizer: head bump, rolloff, tilt

abbrev pub tilt_at : ℕ
tilt_at = section_long + lowpass_long

abbrev pub equalizer_long : ℕ
equalizer_long = tilt_at + one_pole_long

abbrev pub equalizer_numbers : Equalizer → List Float
equalizer_numbers e = section_numbers e.bump ++ (lowpass_numbers e.rolloff ++ one_pole_numbers e.tilt)

unfoldable pub equalizer_from : List Float → Equalizer
equalizer_from ns = record { bump = section_from ns; rolloff = lowpass_from (drop section_long ns); tilt = one_pole_from (drop tilt_at ns) }

-- ---- what the tape keeps: tone, equalizer, drive and its TANH; the duck's kicks, its reached and ducking, and until

abbrev pub tuning_at : ℕ
tuning_at = lowpass_long + equalizer_long

abbrev pub tape_numbers_long : ℕ
tape_numbers_long = tuning_at + 2

abbrev pub tape_words_long : ℕ
tape_words_long = 4

abbrev pub tape_numbers : Tape → List Float
tape_numbers t = lowpass_numbers t.tone ++ (equalizer_numbers t.equalizer ++ (t.drive ∷ t.top ∷ []))

abbrev pub tape_words : Tape → List ℕ
tape_words t = t.duck.count ∷ t.duck.reached ∷ t.duck.ducking ∷ t.until ∷ []

unfoldable pub duck_from : List ℕ → Duck
duck_from ws = record { count = word_at ws 0; reached = word_at ws 1; ducking = word_at ws 2 }

unfoldable pub tape_from : List Float → List ℕ → Tape
tape_from ns ws =
    record {
      tone = lowpass_from ns;
      equalizer = equalizer_from (drop lowpass_long ns);
      duck = duck_from ws;
      drive = number_at (drop tuning_at ns) 0;
      top = number_at (drop tuning_at ns) 1;
      until = word_at ws 3;
    }

-- ---- a lane: setup, daylight, rain, tape; the setup's words, points, daylight's, rain's, the tape's

abbrev pub rain_at : ℕ
rain_at = setup_numbers_long + ramp_numbers_long

abbrev pub tape_at : ℕ
tape_at = rain_at + ramp_numbers_long

abbrev pub lane_numbers_long : ℕ
lane_numbers_long = tape_at + tape_numbers_long

abbrev pub daylight_words_at : ℕ
daylight_words_at = setup_words_long + 1

abbrev pub rain_words_at : ℕ
rain_words_at = daylight_words_at + ramp_words_long

abbrev pub tape_words_at : ℕ
tape_words_at = rain_words_at + ramp_words_long

abbrev pub lane_words_long : ℕ
lane_words_long = tape_words_at + tape_words_long

unfoldable pub lane_numbers : Lane → List Float
lane_numbers k = setup_numbers k.setup ++ (ramp_numbers k.daylight ++ (ramp_numbers k.rain ++ tape_numbers k.tape))

unfoldable pub lane_words : Lane → List ℕ
lane_words k = setup_words k.setup ++ (k.points ∷ (ramp_words k.daylight ++ (ramp_words k.rain ++ tape_words k.tape)))

unfoldable pub lane_from : List Float → List ℕ → Lane
lane_from ns ws =
    record {
      setup = setup_from ns ws;
      points = word_at ws setup_words_long;
      daylight = ramp_from (drop setup_numbers_long ns) (drop daylight_words_at ws);
      rain = ramp_from (drop rain_at ns) (drop rain_words_at ws);
      tape = tape_from (drop tape_at ns) (drop tape_words_at ws);
    }

-- every tag and bool is 0 or 1, and every f32's number is an f32
unfoldable pub lane_fits : List Float → List ℕ → Bool
lane_fits ns ws = setup_fits ns ws && (ramp_fits (drop daylight_words_at ws) && ramp_fits (drop rain_words_at ws))

-- ---- a bus: the tank's left and right, the plate's left and right, the ceiling's released gain; the ceiling's count, head and length

abbrev pub left_at : ℕ
left_at = one_pole_long + one_pole_long

abbrev pub right_at : ℕ
right_at = left_at + section_long

abbrev pub released_at : ℕ
released_at = right_at + section_long

abbrev pub bus_numbers_long : ℕ
bus_numbers_long = released_at + 1

abbrev pub bus_words_long : ℕ
bus_words_long = 3

abbrev pub plate_numbers : Plate → List Float
plate_numbers p = one_pole_numbers p.tank.left ++ (one_pole_numbers p.tank.right ++ (section_numbers p.left ++ section_numbers p.right))

unfoldable pub plate_from : List Float → Plate
plate_from ns =
    record {
      tank = record { left = one_pole_from ns; right = one_pole_from (drop one_pole_long ns) };
      left = section_from (drop left_at ns);
      right = section_from (drop right_at ns);
    }

abbrev pub bus_numbers : Bus → List Float
bus_numbers b = plate_numbers b.plate ++ (b.ceiling.released ∷ [])

abbrev pub bus_words : Bus → List ℕ
bus_words b = b.ceiling.count ∷ b.ceiling.head ∷ b.ceiling.len ∷ []

unfoldable pub bus_from : List Float → List ℕ → Bus
bus_from ns ws = record { plate = plate_from ns; ceiling = record { released = number_at ns released_at; count = word_at ws 0; head = word_at ws 1; len = word_at ws 2 } }

-- ---- a strip: the bus's numbers, then the lane's; the position, the bus's words, then the lane's

abbrev pub numbers_long : ℕ
numbers_long = bus_numbers_long + lane_numbers_long

abbrev pub own_words_long : ℕ
own_words_long = 1

abbrev pub lane_words_at : ℕ
lane_words_at = own_words_long + bus_words_long

abbrev pub words_long : ℕ
words_long = lane_words_at + lane_words_long

unfoldable pub packed_numbers : strips.Strip → List Float
packed_numbers s = bus_numbers s.bus ++ lane_numbers s.lane

unfoldable pub packed_words : strips.Strip → List ℕ
packed_words s = s.position ∷ (bus_words s.bus ++ lane_words s.lane)

-- room for a strip: like the stores its lists are lent, and refusal 1 is for what is lent too short
unfoldable pub roomy : List Float → List ℕ → Bool
roomy ns ws = leb numbers_long (length ns) && leb words_long (length ws)

unfoldable pub unpackable : List Float → List ℕ → Bool
unpackable ns ws = lane_fits (drop bus_numbers_long ns) (drop lane_words_at ws)

unfoldable pub strip_from : List Float → List ℕ → strips.Strip
strip_from ns ws = record { position = word_at ws 0; lane = lane_from (drop bus_numbers_long ns) (drop lane_words_at ws); bus = bus_from ns (drop own_words_long ws) }

unfoldable pub unpacked : List Float → List ℕ → Result strips.Strip UnpackError
unpacked ns ws = cond (roomy ns ws) (cond (unpackable ns ws) (Ok (strip_from ns ws)) (Err Malformed)) (Err Short)
