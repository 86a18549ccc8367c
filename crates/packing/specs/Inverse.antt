-- What was packed is read back, part by part, whatever stands behind a part's numbers and words. Proved as `inverse` (proofs/Inverse.antt).
use Rattle.std.specs.Prelude.{◌≡◌, ℕ, List, ◌++◌, T, Option, None, Some, Float, Ok}
use Rattle.std.specs.Float.{binary32}
use Rattle.std.specs.Float.Ieee.{fits}
use Rattle.onepole.specs.declared.OnePole.{OnePole}
use Rattle.biquad.specs.declared.Section.{Section}
use Rattle.ramp.specs.declared.Ramp.{Ramp}
use Rattle.automation.specs.declared.Tone.{Tone}
use Rattle.automation.specs.declared.Tone.TheVariants.{Fixed, Graded}
use Rattle.oscillators.specs.declared.Pad.{Pad}
use Rattle.strip.specs.declared.Lane.{Lane}
use Rattle.strip.specs.declared.Bus.{Bus}
use Rattle.strip.specs.declared.Strip.{Strip}
use Rattle.packing.specs.Packing.{one_pole_numbers, one_pole_from, section_numbers, section_from, ramp_numbers, ramp_words, ramp_from, lane_numbers, lane_words, lane_from, bus_numbers, bus_words, bus_from, packed_numbers, packed_words, unpacked}

-- what the code's types say: a field of type f32 holds an f32
abbrev pub Single : Float → Type 0
Single x = T (fits binary32 x)

abbrev pub ToneSingle : Tone → Type 0
ToneSingle (Fixed corner drive) = Single corner
ToneSingle (Graded nightCorner dayCorner nightDrive dayDrive) = Single nightCorner × Single dayCorner × Single nightDrive × Single dayDrive

abbrev pub PadSingle : Option Pad → Type 0
PadSingle None = Unit {0}
PadSingle (Some pad) = Single pad.hz × Single pad.depth

pub record Singles (k : Lane) : Type 0 where
  pub tone : ToneSingle k.setup.tape.tone
  pub pad : PadSingle k.setup.tape.pad
  pub daylight : Single k.setup.daylight
  pub rain : Single k.setup.rain

pub record Inverse : Type 0 where
  pub one_pole : (p : OnePole) (ns : List Float) → one_pole_from (one_pole_numbers p ++ ns) ≡ p
  pub section : (s : Section) (ns : List Float) → section_from (section_numbers s ++ ns) ≡ s
  pub ramp : (r : Ramp) (ns : List Float) (ws : List ℕ) → ramp_from (ramp_numbers r ++ ns) (ramp_words r ++ ws) ≡ r
  pub lane : (k : Lane) → Singles k → (ns : List Float) (ws : List ℕ) → lane_from (lane_numbers k ++ ns) (lane_words k ++ ws) ≡ k
  pub bus : (b : Bus) (ns : List Float) (ws : List ℕ) → bus_from (bus_numbers b ++ ns) (bus_words b ++ ws) ≡ b
  pub back : (s : Strip) → Singles s.lane → (ns : List Float) (ws : List ℕ) → unpacked (packed_numbers s ++ ns) (packed_words s ++ ws) ≡ Ok s
