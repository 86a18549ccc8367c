-- The plate's machine, on histories: a line is the list of its last R samples, newest first. "Steps as in `Plate::step`, then
-- the 300 Hz order-2 highpass on each side." Definitions only.
use Rattle.std.specs.Prelude.{ℕ, ◌-◌, Bool, ◌&&◌, List, replicate, from_bits, Float}
use Rattle.std.specs.Float.{binary64}
use Rattle.std.specs.Float.Ieee.{to_unsigned}
use Rattle.casts.specs.Arithmetic.{◌⊕◌, ◌⊖◌, ◌⊗◌, ◌⊘◌, whole, nought, one}
use Rattle.elementary.specs.Elementary.{SIN, COS, TAU}
use Rattle.stage.specs.Stage.{Step, Stage}
use Rattle.stream.specs.declared.Frame.{Frame}
use Rattle.onepole.specs.declared.OnePole.{OnePole}
use Rattle.onepole.specs.OnePole.{one_pole_at, one_pole_step, one_pole_at_rest}
use Rattle.biquad.specs.declared.Section.{Section}
use Rattle.biquad.specs.Section.{section_at, section_step, section_at_rest}
use Rattle.delay.specs.Delay.{push_of, at_of, all_zero}
use Rattle.allpass.specs.Allpass.{stored_of, lattice_step, stretched_step, delay_step}
use Rattle.rate.specs.declared.LineRate.{LineRate}
use Rattle.rate.specs.declared.InputRate.{InputRate}
use Rattle.rate.specs.declared.HalfRate.{HalfRate}
use Rattle.rate.specs.declared.Taps.{Taps}
use Rattle.rate.specs.declared.PlateRate.{PlateRate}

-- Dattorro's Table 1: "input diffusion 1 = 0.750", "input diffusion 2 = 0.625", "decay diffusion 1 = 0.70", which the tank negates
abbrev pub input_diffusion1 : Float
input_diffusion1 = from_bits binary64 0x3fe8_0000_0000_0000

abbrev pub input_diffusion2 : Float
input_diffusion2 = from_bits binary64 0x3fe4_0000_0000_0000

abbrev pub decay_diffusion1 : Float
decay_diffusion1 = from_bits binary64 0xbfe6_6666_6666_6666

-- Table 2: each tap at 0.6
abbrev pub tap_gain : Float
tap_gain = from_bits binary64 0x3fe3_3333_3333_3333

-- ---- the predelay and the four input lattices

pub record InputMachine : Type 0 where
  pub predelay : List Float
  pub diffuser1 : List Float
  pub diffuser2 : List Float
  pub diffuser3 : List Float
  pub diffuser4 : List Float

unfoldable pub input_step : InputRate → InputMachine → Float → Step InputMachine Float
input_step r m x =
    let p = delay_step r.predelay m.predelay x in
    let a = lattice_step r.diffuser1 input_diffusion1 m.diffuser1 p.out in
    let b = lattice_step r.diffuser2 input_diffusion1 m.diffuser2 a.out in
    let c = lattice_step r.diffuser3 input_diffusion2 m.diffuser3 b.out in
    let d = lattice_step r.diffuser4 input_diffusion2 m.diffuser4 c.out in
    record {
      next = record { predelay = p.next; diffuser1 = a.next; diffuser2 = b.next; diffuser3 = c.next; diffuser4 = d.next };
      out = d.out;
    }

-- ---- a half of the tank

pub record HalfMachine : Type 0 where
  pub diffuser1 : List Float
  pub delay1 : List Float
  pub damping : OnePole
  pub diffuser2 : List Float
  pub delay2 : List Float

unfoldable pub half_step : HalfRate → Float → Float → HalfMachine → Float → Float → HalfMachine
half_step r decay diffusion m fed stretch =
    let a = stretched_step r.diffuser1 r.reach stretch decay_diffusion1 m.diffuser1 fed in
    let b = delay_step r.delay1 m.delay1 (stored_of a.out) in
    let damping = one_pole_step m.damping b.out in
    let d = lattice_step r.diffuser2 diffusion m.diffuser2 (damping.y ⊗ decay) in
    record { diffuser1 = a.next; delay1 = b.next; damping = damping; diffuser2 = d.next; delay2 = push_of r.delay2.line.ring m.delay2 (stored_of d.out) }

-- the sample leaving a half on this frame, before its pushes
unfoldable pub leaving : HalfRate → HalfMachine → Float
leaving r m = at_of m.delay2 (r.delay2.delay - 1)

-- Table 2: "A tap sum begins with its first term"
unfoldable pub taps_of : Taps → HalfMachine → HalfMachine → Float
taps_of t other own =
    tap_gain
    ⊗ (at_of other.delay1 t.first
    ⊕ at_of other.delay1 t.second
    ⊖ at_of other.diffuser2 t.third
    ⊕ at_of other.delay2 t.fourth
    ⊖ at_of own.delay1 t.fifth
    ⊖ at_of own.diffuser2 t.sixth
    ⊖ at_of own.delay2 t.seventh)

-- ---- the tank: two halves, each fed the input and what leaves the other

pub record TankMachine : Type 0 where
  pub left : HalfMachine
  pub right : HalfMachine

unfoldable pub fed_of : PlateRate → TankMachine → Float → Frame
fed_of r m x =
    record { left = x ⊕ r.decay ⊗ leaving r.right m.right; right = x ⊕ r.decay ⊗ leaving r.left m.left }

-- how far each half's first lattice stretches: "a quadrature pair" of 1 Hz, by the frame n
unfoldable pub turn_of : ℕ → ℕ → Float
turn_of sr n =
    let t = one ⊗ whole n ⊘ whole sr in
    TAU ⊗ (t ⊖ whole (to_unsigned 64 t))

unfoldable pub stretch_of : PlateRate → ℕ → Frame
stretch_of r n = record { left = r.excursion ⊗ SIN (turn_of r.sr n); right = r.excursion ⊗ COS (turn_of r.sr n) }

abbrev pub frame : Float → Float → Frame
frame left right = record { left = left; right = right }

unfoldable pub tank_step : PlateRate → ℕ → TankMachine → Float → TankMachine
tank_step r n m x =
    let fed = fed_of r m x in
    let stretch = stretch_of r n in
    record {
      left = half_step r.left r.decay r.diffusion m.left fed.left stretch.left;
      right = half_step r.right r.decay r.diffusion m.right fed.right stretch.right;
    }

unfoldable pub returned_of : PlateRate → TankMachine → Frame
returned_of r m = record { left = taps_of r.left.taps m.right m.left; right = taps_of r.right.taps m.left m.right }

-- ---- the plate: y·send in, a frame out

pub record PlateMachine : Type 0 where
  pub input : InputMachine
  pub tank : TankMachine
  pub left_highpass : Section
  pub right_highpass : Section

unfoldable pub plate_step : PlateRate → Stage PlateMachine Float Frame
plate_step r n m x =
    let i = input_step r.input m.input x in
    let t = tank_step r n m.tank i.out in
    let f = returned_of r t in
    let l = section_step m.left_highpass f.left in
    let h = section_step m.right_highpass f.right in
    record { next = record { input = i.next; tank = t; left_highpass = l; right_highpass = h }; out = record { left = l.y1; right = h.y1 } }

-- "Fresh, .. every filter's past is zero", and each line's samples are "zero before the first"
abbrev pub zeros : LineRate → List Float
zeros l = replicate l.line.ring nought

unfoldable pub fresh_half : Float → HalfRate → HalfMachine
fresh_half pole r =
    record { diffuser1 = zeros r.diffuser1; delay1 = zeros r.delay1; damping = one_pole_at pole; diffuser2 = zeros r.diffuser2; delay2 = zeros r.delay2 }

unfoldable pub fresh_plate : PlateRate → PlateMachine
fresh_plate r =
    record {
      input =
          record {
            predelay = zeros r.input.predelay;
            diffuser1 = zeros r.input.diffuser1;
            diffuser2 = zeros r.input.diffuser2;
            diffuser3 = zeros r.input.diffuser3;
            diffuser4 = zeros r.input.diffuser4;
          };
      tank = record { left = fresh_half r.damping r.left; right = fresh_half r.damping r.right };
      left_highpass = section_at r.highpass;
      right_highpass = section_at r.highpass;
    }

-- "the last R samples of .. every plate line, and the plate's filters hold only zeros"
unfoldable pub input_at_rest : InputMachine → Bool
input_at_rest m = all_zero m.predelay && all_zero m.diffuser1 && all_zero m.diffuser2 && all_zero m.diffuser3 && all_zero m.diffuser4

unfoldable pub half_at_rest : HalfMachine → Bool
half_at_rest m = all_zero m.diffuser1 && all_zero m.delay1 && all_zero m.diffuser2 && all_zero m.delay2

unfoldable pub at_rest : PlateMachine → Bool
at_rest m =
    (input_at_rest m.input && (half_at_rest m.tank.left && half_at_rest m.tank.right))
    && (one_pole_at_rest m.tank.left.damping && one_pole_at_rest m.tank.right.damping && section_at_rest m.left_highpass && section_at_rest m.right_highpass)
