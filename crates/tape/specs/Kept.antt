-- The tape as it is kept: the warp as a ring in its part of the sample store, the duck with its cursors in its part of the count store, and a tuning as long as it lasts. Definitions only.
use Rattle.std.specs.Prelude.{ℕ, ◌+◌, ◌<◌, ◌≤◌, Bool, true, false, cond, ◌&&◌, List, ltb, length, Float}
use Rattle.casts.specs.Arithmetic.{◌⊗◌, nought}
use Rattle.elementary.specs.Elementary.{TANH}
use Rattle.eight.specs.Each.{saturated_over}
use Rattle.stage.specs.Stage.{Step, Stage, identity}
use Rattle.biquad.specs.declared.Lowpass.{Lowpass}
use Rattle.biquad.specs.Section.{lowpass_step, lowpass_at_rest}
use Rattle.biquad.specs.Cookbook.{lowpass_retuned}
use Rattle.delay.specs.Delay.{line_push, line_tap, all_zero, Reach}
use Rattle.ramp.specs.declared.Ramp.{Ramp}
use Rattle.rate.specs.declared.TapeRate.{TapeRate}
use Rattle.automation.specs.declared.Tone.{Tone}
use Rattle.automation.specs.Pieces.{piece_at}
use Rattle.sidechain.specs.declared.DuckRate.{DuckRate}
use Rattle.duck.specs.Cursors.{DuckIn, duck_on, duck_step_on}
use Rattle.oscillators.specs.Oscillators.{swell_of, warp_delay}
use Rattle.tape.specs.declared.Tape.{Tape}
use Rattle.tape.specs.declared.TapeSetup.{TapeSetup}
use Rattle.tape.specs.declared.Equalizer.{Equalizer}
use Rattle.tape.specs.Tape.{equalizer_step, fresh_tone, fresh_equalizer, equalizer_at_rest, Lists}

-- ---- the passes

-- tone, swell and gain in, warp
pub record FrontIn : Type 0 where
  pub tone : Lowpass
  pub ring : List Float

abbrev pub front_on : Lowpass → List Float → FrontIn
front_on tone ring = record { tone = tone; ring = ring }

abbrev pub front_gave : Lowpass → List Float → Float → Step FrontIn Float
front_gave tone ring y = record { next = front_on tone ring; out = y }

unfoldable pub front_step_on : TapeRate → TapeSetup → Stage FrontIn Float Float
front_step_on r s n f x =
    let tone = lowpass_step f.tone x in
    let ring = line_push r.warp f.ring n (tone.second.y1 ⊗ (swell_of r.hz s.pad n ⊗ s.input)) in
    front_gave tone ring (line_tap r.warp ring (n + 1) r.most (warp_delay r n))

-- what the code asks of the warp's part
pub record WarpFits (r : TapeRate) (ring : List Float) : Type 0 where
  pub some : 0 < r.warp.ring
  pub room : r.warp.at + r.warp.ring ≤ length ring
  pub reach : Reach r.most

abbrev pub equalizer_gave : Equalizer → Float → Step Equalizer Float
equalizer_gave e y = record { next = e; out = y }

-- "If ducked, ..": else nothing is marked and the sample stays
unfoldable pub ducked_step_on : DuckRate → Bool → Bool → Stage DuckIn Float Float
ducked_step_on r true d = duck_step_on r d
ducked_step_on r false d = identity

-- ---- the tape

pub record TapeIn : Type 0 where
  pub tape : Tape
  pub ring : List Float
  pub counts : List ℕ

abbrev pub tape_on : Tape → List Float → List ℕ → TapeIn
tape_on t ring counts = record { tape = t; ring = ring; counts = counts }

-- tuned as it is
unfoldable pub tape_tuned : TapeRate → TapeSetup → Ramp → Bool → Stage TapeIn Float Float
tape_tuned r s rain d n t x =
    let f = front_step_on r s n (front_on t.tape.tone t.ring) x in
    let e = equalizer_step s rain n t.tape.equalizer (saturated_over t.tape.drive t.tape.top f.out) in
    let k = ducked_step_on r.duck s.ducked d n (duck_on t.tape.duck t.counts) e.out in
    record {
      next =
          tape_on (record { tone = f.next.tone; equalizer = e.next; duck = k.next.duck; drive = t.tape.drive; top = t.tape.top; until = t.tape.until })
          f.next.ring
          k.next.part;
      out = k.out;
    }

-- tuned to the corner and the drive of the sample at n, for as many samples as have them
unfoldable pub tuned_afresh : TapeRate → Tone → Ramp → List ℕ → List Float → ℕ → Tape → Tape
tuned_afresh r tone daylight positions values n t =
    let p = piece_at tone daylight positions values n in
    record {
      tone = lowpass_retuned t.tone p.tuning.corner r.hz;
      equalizer = t.equalizer;
      duck = t.duck;
      drive = p.tuning.drive;
      top = TANH p.tuning.drive;
      until = n + p.len;
    }

-- a tuning is kept as long as it lasts
unfoldable pub tuned_at : TapeRate → Tone → Ramp → List ℕ → List Float → ℕ → Tape → Tape
tuned_at r tone daylight positions values n t = cond (ltb n t.until) t (tuned_afresh r tone daylight positions values n t)

-- with a tuning that holds for no position
abbrev pub untuned : Tape → Tape
untuned t = record { tone = t.tone; equalizer = t.equalizer; duck = t.duck; drive = t.drive; top = t.top; until = 0 }

-- tuned for the sample's own position
unfoldable pub tape_step_on : TapeRate → TapeSetup → Ramp → Ramp → Lists → Bool → Stage TapeIn Float Float
tape_step_on r s daylight rain l d n t x =
    tape_tuned r s rain d n (tape_on (tuned_at r s.tone daylight l.positions l.values n t.tape) t.ring t.counts) x

-- fresh, with so many kicks: tuned for no position, no kick reached
unfoldable pub fresh_tape : TapeRate → ℕ → Tape
fresh_tape r kicks =
    record {
      tone = fresh_tone;
      equalizer = fresh_equalizer r;
      duck = record { count = kicks; reached = 0; ducking = 0 };
      drive = nought;
      top = nought;
      until = 0;
    }

unfoldable pub tape_at_rest_on : Lowpass → Equalizer → List Float → Bool
tape_at_rest_on tone e ring = lowpass_at_rest tone && (equalizer_at_rest e && all_zero ring)
