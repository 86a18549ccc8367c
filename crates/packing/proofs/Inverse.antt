-- What was packed is read back, part by part. Assumes nothing.
use mathlib.Core.Path.{◌≡◌, refl, ap}
use Prim.Native.Nat.{ℕ}
use native.Mathlib.Omega.{arith}
use mathlib.Core.Bool.{Bool, true, false}
use mathlib.Core.List.{List, ◌∷◌, ◌++◌}
use lib.Dec.{leb}
use lib.ListN.{length, length-append}
use lib.Ieee.{Float}
use borrow.Author.Tests.{le-leb}
use Rattle.onepole.specs.declared.OnePole.{OnePole}
use Rattle.biquad.specs.declared.Section.{Section}
use Rattle.biquad.specs.declared.Lowpass.{Lowpass}
use Rattle.ramp.specs.declared.Shape.{Shape}
use Rattle.ramp.specs.declared.Shape.TheVariants.{Linear, Db}
use Rattle.ramp.specs.declared.Ramp.{Ramp}
use Rattle.automation.specs.declared.Tone.{Tone}
use Rattle.automation.specs.declared.Tone.TheVariants.{Fixed, Graded}
use Rattle.oscillators.specs.declared.Pad.{Pad}
use Rattle.std.specs.Prelude.{Option, None, Some, Ok}
use Rattle.tape.specs.declared.Equalizer.{Equalizer}
use Rattle.tape.specs.declared.Tape.{Tape}
use Rattle.tape.specs.declared.TapeSetup.{TapeSetup}
use Rattle.setup.specs.Setup.{number_at}
use Rattle.strip.specs.declared.Lane.{Lane}
use Rattle.strip.specs.declared.Bus.{Bus}
use Rattle.strip.specs.declared.Strip.{Strip}
use Rattle.packing.specs.Packing.{flagged, flag_of, shape_tag, shape_of, one_pole_numbers, one_pole_from, section_numbers, section_from, lowpass_numbers, lowpass_from, ramp_numbers, ramp_words, ramp_from, both_short, tone_numbers, tone_tag, tone_from, tone_fits, pad_numbers, pad_tag, pad_from, pad_fits, setup_from, setup_fits, equalizer_numbers, equalizer_from, tape_numbers, tape_words, duck_from, tape_from, lane_numbers_long, lane_numbers, lane_words, lane_from, lane_fits, plate_from, bus_numbers, bus_words, bus_from, numbers_long, words_long, packed_numbers, packed_words, roomy, unpackable, strip_from, unpacked}
use Rattle.packing.specs.Inverse.{ToneSingle, PadSingle, Singles, Inverse}
use Rattle.packing.proofs.Floats.{narrowed_own, short_is}

-- ---- a bool and a shape

pub flag_is : (b : Bool) → flag_of (flagged b) ≡ b
flag_is true = refl
flag_is false = refl

flag_small : (b : Bool) → leb (flagged b) 1 ≡ true
flag_small true = refl
flag_small false = refl

shape_is : (h : Shape) → shape_of (shape_tag h) ≡ h
unfolding shape_of
shape_is Linear = refl
shape_is Db = refl

shape_small : (h : Shape) → leb (shape_tag h) 1 ≡ true
shape_small Linear = refl
shape_small Db = refl

-- ---- filters and ramps

one_pole_is : (p : OnePole) (ns : List Float) → one_pole_from (one_pole_numbers p ++ ns) ≡ p
one_pole_is p ns = refl

section_is : (s : Section) (ns : List Float) → section_from (section_numbers s ++ ns) ≡ s
section_is s ns = refl

lowpass_is : (l : Lowpass) (ns : List Float) → lowpass_from (lowpass_numbers l ++ ns) ≡ l
unfolding lowpass_from
lowpass_is l ns = refl

ramp_is : (r : Ramp) (ns : List Float) (ws : List ℕ) → ramp_from (ramp_numbers r ++ ns) (ramp_words r ++ ws) ≡ r
unfolding ramp_from
ramp_is r ns ws = rw (shape_is r.shape)

-- ---- a lane

equalizer_is : (e : Equalizer) (ns : List Float) → equalizer_from (equalizer_numbers e ++ ns) ≡ e
unfolding equalizer_from
equalizer_is e ns = rw (lowpass_is e.rolloff _)

tape_is : (t : Tape) (ns : List Float) (ws : List ℕ) → tape_from (tape_numbers t ++ ns) (tape_words t ++ ws) ≡ t
unfolding tape_from duck_from
tape_is t ns ws = rw (lowpass_is t.tone _) (rw (equalizer_is t.equalizer _))

-- a tone's four numbers and a pad's two before a list, one by one
abbrev toned : Tone → List Float → List Float
toned t l = number_at (tone_numbers t) 0 ∷ number_at (tone_numbers t) 1 ∷ number_at (tone_numbers t) 2 ∷ number_at (tone_numbers t) 3 ∷ l

abbrev padded : Option Pad → List Float → List Float
padded p l = number_at (pad_numbers p) 0 ∷ number_at (pad_numbers p) 1 ∷ l

spread : (t : Tone) (p : Option Pad) (l : List Float) → tone_numbers t ++ (pad_numbers p ++ l) ≡ toned t (padded p l)
unfolding tone_numbers pad_numbers
spread (Fixed a b) None l = refl
spread (Fixed a b) (Some c) l = refl
spread (Graded a b c d) None l = refl
spread (Graded a b c d) (Some e) l = refl

tone_is : (t : Tone) (ns : List Float) → ToneSingle t → tone_from (toned t ns) (tone_tag t) ≡ t
unfolding tone_numbers tone_from
tone_is (Fixed a b) ns h = rw (narrowed_own a h)
tone_is (Graded a b c d) ns h = rw (narrowed_own a h.0, narrowed_own b h.1, narrowed_own c h.2, narrowed_own d h.3)

tone_fits_lem : (t : Tone) (ns : List Float) → ToneSingle t → tone_fits (toned t ns) (tone_tag t) ≡ true
unfolding tone_numbers tone_fits both_short
tone_fits_lem (Fixed a b) ns h = short_is a h
tone_fits_lem (Graded a b c d) ns h = rw (short_is a h.0, short_is b h.1, short_is c h.2, short_is d h.3)

pad_is : (p : Option Pad) (ns : List Float) → PadSingle p → pad_from (padded p ns) (pad_tag p) ≡ p
unfolding pad_numbers pad_from
pad_is None ns h = refl
pad_is (Some p) ns h = rw (narrowed_own p.hz h.0, narrowed_own p.depth h.1)

pad_fits_lem : (p : Option Pad) (ns : List Float) → PadSingle p → pad_fits (padded p ns) (pad_tag p) ≡ true
unfolding pad_numbers pad_fits both_short
pad_fits_lem None ns h = refl
pad_fits_lem (Some p) ns h = rw (short_is p.hz h.0, short_is p.depth h.1)

module _ (k : Lane) where
  abbrev t : TapeSetup
  t = k.setup.tape

  abbrev behind : List Float
  behind =
      t.input ∷ t.output ∷ k.setup.daylight ∷ k.setup.rain ∷ k.setup.send ∷ (ramp_numbers k.daylight ++ (ramp_numbers k.rain ++ tape_numbers k.tape))

  lane_spread : lane_numbers k ≡ toned t.tone (padded t.pad behind)
  unfolding lane_numbers
  lane_spread = ap (λ (l : List Float). l ++ (ramp_numbers k.daylight ++ (ramp_numbers k.rain ++ tape_numbers k.tape))) (spread t.tone t.pad _)

  lane_long : length (lane_numbers k) ≡ lane_numbers_long
  lane_long = ap length lane_spread

  lane_is : Singles k → (ns : List Float) (ws : List ℕ) → lane_from (lane_numbers k ++ ns) (lane_words k ++ ws) ≡ k
  unfolding lane_words lane_from setup_from
  lane_is h ns ws =
      rw lane_spread
      (rw (tone_is t.tone _ h.tone)
      (rw (pad_is t.pad _ h.pad)
      (rw (narrowed_own k.setup.daylight h.daylight)
      (rw (narrowed_own k.setup.rain h.rain)
      (rw (flag_is t.darkened) (rw (flag_is t.ducked) (rw (ramp_is k.daylight _ _) (rw (ramp_is k.rain _ _) (rw (tape_is k.tape _ _))))))))))

  lane_fits_lem : Singles k → (ns : List Float) (ws : List ℕ) → lane_fits (lane_numbers k ++ ns) (lane_words k ++ ws) ≡ true
  unfolding lane_words lane_fits setup_fits both_short
  lane_fits_lem h ns ws =
      rw lane_spread
      (rw (tone_fits_lem t.tone _ h.tone)
      (rw (pad_fits_lem t.pad _ h.pad)
      (rw (short_is k.setup.daylight h.daylight)
      (rw (short_is k.setup.rain h.rain)
      (rw (flag_small t.darkened, flag_small t.ducked, shape_small k.daylight.shape, shape_small k.rain.shape))))))

-- ---- a bus

bus_is : (b : Bus) (ns : List Float) (ws : List ℕ) → bus_from (bus_numbers b ++ ns) (bus_words b ++ ws) ≡ b
unfolding bus_from plate_from
bus_is b ns ws = refl

-- ---- a strip

module _ (s : Strip) (h : Singles s.lane) (ns : List Float) (ws : List ℕ) where
  strip_is : strip_from (packed_numbers s ++ ns) (packed_words s ++ ws) ≡ s
  unfolding packed_numbers packed_words strip_from
  strip_is = rw (lane_is s.lane h ns ws) (rw (bus_is s.bus _ _))

  all_fit : unpackable (packed_numbers s ++ ns) (packed_words s ++ ws) ≡ true
  unfolding packed_numbers packed_words unpackable
  all_fit = lane_fits_lem s.lane h ns ws

  has_room : roomy (packed_numbers s ++ ns) (packed_words s ++ ws) ≡ true
  unfolding packed_numbers packed_words lane_words roomy
  has_room =
      let l = length-append (packed_numbers s) ns in
      let m = length-append (bus_numbers s.bus) (lane_numbers s.lane) in
      rw (le-leb numbers_long (length (packed_numbers s ++ ns)) (omega (arith, l, m, lane_long s.lane)))
      (rw (le-leb words_long (length (packed_words s ++ ws)) (rw length-append (omega arith))))

  packed_back_lem : unpacked (packed_numbers s ++ ns) (packed_words s ++ ws) ≡ Ok s
  unfolding unpacked
  packed_back_lem = rw (has_room, all_fit, strip_is)

pub inverse : Inverse
inverse = record { one_pole = one_pole_is; section = section_is; ramp = ramp_is; lane = lane_is; bus = bus_is; back = packed_back_lem }
