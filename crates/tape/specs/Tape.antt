-- Document 01, 'One sample through the lane', on histories, tuned anew at every sample. Definitions only.
use Rattle.std.specs.Prelude.{ℕ, Bool, true, false, cond, ◌&&◌, List, replicate, Float}
use Rattle.std.specs.Float.{binary32}
use Rattle.std.specs.Float.Ieee.{of_bits}
use Rattle.casts.specs.Arithmetic.{◌⊕◌, ◌⊗◌, ◌⊘◌, nought}
use Rattle.elementary.specs.Elementary.{TANH}
use Rattle.stage.specs.Stage.{Stage, identity}
use Rattle.onepole.specs.OnePole.{tilt_step, tilt_lift, lift_of, one_pole_at_rest}
use Rattle.biquad.specs.declared.Lowpass.{Lowpass}
use Rattle.biquad.specs.declared.Coefficients.{Coefficients}
use Rattle.biquad.specs.Section.{section_at, section_step, lowpass_step, section_at_rest, lowpass_at_rest}
use Rattle.biquad.specs.Cookbook.{lowpass_retuned}
use Rattle.delay.specs.Delay.{push_of, at_of, tap_of, all_zero}
use Rattle.ramp.specs.declared.Ramp.{Ramp}
use Rattle.ramp.specs.Ramp.{ramp_at}
use Rattle.rate.specs.declared.TapeRate.{TapeRate}
use Rattle.automation.specs.Automation.{tuning_at}
use Rattle.sidechain.specs.declared.DuckRate.{DuckRate}
use Rattle.duck.specs.Duck.{duck_step, unmarked}
use Rattle.oscillators.specs.Oscillators.{swell_of, warp_delay}
use Rattle.tape.specs.declared.TapeSetup.{TapeSetup}
use Rattle.tape.specs.declared.Equalizer.{Equalizer}

-- "TANH(x·drive)/TANH(drive)."
unfoldable pub saturated : Float → Float → Float
saturated drive x = TANH (x ⊗ drive) ⊘ TANH drive

-- 0.35, an f32 in the Rust
abbrev pub bump_mix : Float
bump_mix = of_bits binary32 0x3eb3_3333

-- "lift 0.8 or, if rain-darkened, by rain at n itself (not B(n))"
unfoldable pub lift_at : Bool → Ramp → ℕ → Float
lift_at darkened rain n = cond darkened (lift_of (ramp_at rain n)) tilt_lift

-- "Then 0.35 of the 60 to 120 Hz band added, the 6,500 Hz order-4 lowpass, the tilt at 1,200 Hz .. Times gain out."
unfoldable pub equalizer_step : TapeSetup → Ramp → Stage Equalizer Float Float
equalizer_step s rain n e x =
    let bump = section_step e.bump x in
    let rolloff = lowpass_step e.rolloff (x ⊕ bump_mix ⊗ bump.y1) in
    let tilt = tilt_step e.tilt (lift_at s.darkened rain n) rolloff.second.y1 in
    record { next = record { bump = bump; rolloff = rolloff; tilt = tilt.lp }; out = tilt.out ⊗ s.output }

-- "If ducked, times the product": else no kick is marked and the sample stays
unfoldable pub ducked_step : DuckRate → Bool → List ℕ → Bool → Stage (List Bool) Float Float
ducked_step r true kicks d = duck_step r kicks d
ducked_step r false kicks d = identity

-- the sweep points, positions and values, and the kicks
pub record Lists : Type 0 where
  pub positions : List ℕ
  pub values : List Float
  pub kicks : List ℕ

-- what the machine keeps of a lane: its filters, the warp's last R samples newest first, and the marked kicks
pub record TapeMachine : Type 0 where
  pub tone : Lowpass
  pub warp : List Float
  pub equalizer : Equalizer
  pub marks : List Bool

-- steps 1 to 6, of the sample x with the drums flag d
unfoldable pub tape_step : TapeRate → TapeSetup → Ramp → Ramp → Lists → Bool → Stage TapeMachine Float Float
tape_step r s daylight rain l d n m x =
    let tuning = tuning_at s.tone daylight l.positions l.values n in
    let tone = lowpass_step (lowpass_retuned m.tone tuning.corner r.hz) x in
    let warp = push_of r.warp.ring m.warp (tone.second.y1 ⊗ (swell_of r.hz s.pad n ⊗ s.input)) in
    let e = equalizer_step s rain n m.equalizer (saturated tuning.drive (tap_of (at_of warp) r.most (warp_delay r n))) in
    let k = ducked_step r.duck s.ducked l.kicks d n m.marks e.out in
    record { next = record { tone = tone; warp = warp; equalizer = e.next; marks = k.next }; out = k.out }

-- "every filter's past is zero and no kick is marked"; the tone is tuned at each sample, so its first coefficients are of no account
unfoldable pub fresh_tone : Lowpass
fresh_tone =
    let none : Coefficients = record { b0 = nought; b1 = nought; b2 = nought; a1 = nought; a2 = nought } in
    record { first = section_at none; second = section_at none }

unfoldable pub fresh_equalizer : TapeRate → Equalizer
fresh_equalizer r =
    record {
      bump = section_at r.bump;
      rolloff = record { first = section_at r.first; second = section_at r.second };
      tilt = record { pole = r.tilt; y = nought };
    }

unfoldable pub fresh_tape_machine : TapeRate → List ℕ → TapeMachine
fresh_tape_machine r kicks = record { tone = fresh_tone; warp = replicate r.warp.ring nought; equalizer = fresh_equalizer r; marks = unmarked kicks }

-- "every lane filter's past values, the last R samples of the warp .. hold only zeros (−0 counts)"
unfoldable pub equalizer_at_rest : Equalizer → Bool
equalizer_at_rest e = section_at_rest e.bump && (lowpass_at_rest e.rolloff && one_pole_at_rest e.tilt)

unfoldable pub tape_at_rest : TapeMachine → Bool
tape_at_rest m = lowpass_at_rest m.tone && (equalizer_at_rest m.equalizer && all_zero m.warp)
