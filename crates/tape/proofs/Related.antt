-- The tape as it is kept gives what document 01's lane gives, at every sample and any usable rate. Assumes nothing.
--     TapeHolds     the machine's tape and the kept one go together
use mathlib.Core.Path.{◌≡◌, refl, sym, ap, subst, ◌∙◌}
use mathlib.Core.Bool.{Bool, true, false, true≢false}
use mathlib.Core.List.{List}
use Prim.Native.Nat.{ℕ, ◌+◌, ◌-◌, ◌<◌, ◌≤◌}
use native.Mathlib.Omega.{arith}
use native.Mathlib.Decide.{dec_lt}
use lib.ListN.{length, replicate, length-replicate}
use lib.Seq.{take_all}
use lib.Ieee.{Float, eq, of_bits}
use borrow.Author.Tests.{le-leb, lt-ltb, le-ltb}
use Rattle.casts.specs.Arithmetic.{nought}
use Rattle.elementary.specs.Elementary.{TANH}
use Rattle.eight.specs.Each.{saturated_over}
use Rattle.stage.specs.Stage.{identity}
use Rattle.stage.proofs.Laws.{Relates}
use Rattle.biquad.specs.declared.Lowpass.{Lowpass}
use Rattle.onepole.specs.OnePole.{one_pole_at_rest}
use Rattle.biquad.specs.Section.{section_at, lowpass_step, retuned, section_at_rest, lowpass_at_rest}
use Rattle.biquad.specs.Cookbook.{lowpass_retuned}
use Rattle.biquad.proofs.Laws.{lowpass_stepped}
use Rattle.delay.specs.Delay.{push_of, at_of, tap_of, line_push, line_tap, line_of, all_zero}
use Rattle.delay.proofs.Line.{line_push_lem, line_tap_lem, push_length}
use Rattle.delay.proofs.Rest.{line_rest, line_fresh, zero_fresh}
use Rattle.ramp.specs.declared.Ramp.{Ramp}
use Rattle.rate.specs.declared.TapeRate.{TapeRate}
use Rattle.rate.specs.Tape.{TapeUsable}
use Rattle.sidechain.specs.declared.DuckRate.{DuckRate}
use Rattle.ranges.specs.Ranges.{most_kicks, rising_from}
use Rattle.duck.specs.Duck.{unmarked}
use Rattle.duck.specs.Cursors.{duck_counts, DuckIn, duck_on, kicks_in, laid, Within, duck_step_on, duck_formed}
use Rattle.duck.proofs.Loops.{gain_sized}
use Rattle.duck.proofs.Related.{DuckHolds, duck_relates, duck_fresh}
use Rattle.automation.specs.declared.Tuning.{Tuning}
use Rattle.automation.specs.Automation.{tuning_at}
use Rattle.automation.specs.Pieces.{piece_at}
use Rattle.automation.proofs.Span.{same_tuning}
use Rattle.tape.specs.declared.Tape.{Tape}
use Rattle.tape.specs.declared.TapeSetup.{TapeSetup}
use Rattle.oscillators.specs.Oscillators.{warp_delay}
use Rattle.tape.specs.Tape.{Lists, TapeMachine, ducked_step, tape_step, saturated, fresh_tone, fresh_equalizer, fresh_tape_machine, equalizer_at_rest, tape_at_rest}
use Rattle.tape.specs.Kept.{TapeIn, tape_on, front_step_on, ducked_step_on, tape_tuned, tuned_afresh, tuned_at, untuned, tape_step_on, fresh_tape, tape_at_rest_on}
use Rattle.tape.proofs.Lasting.{tuned_some, tuned_equalizer, tuned_duck}

-- the last tuning counts alone
lowpass_again : (f : Lowpass) (a b : Float) (rate : ℕ) → lowpass_retuned (lowpass_retuned f a rate) b rate ≡ lowpass_retuned f b rate
unfolding lowpass_retuned retuned
lowpass_again f a b rate = refl

-- ---- the duck, where the lane ducks; where it does not, the kept one only stays as it is

pub record DuckedHolds (r : DuckRate) (ducked : Bool) (kicks : List ℕ) (n : ℕ) (marks : List Bool) (s : DuckIn) : Type 0 where
  pub within : Within s
  pub kept : kicks_in s.duck.count s.part ≡ kicks
  pub risen : rising_from 0 kicks ≡ true
  pub held : ducked ≡ true → DuckHolds r kicks n marks s

from_held : (r : DuckRate) (kicks : List ℕ) (n : ℕ) (marks : List Bool) (s : DuckIn) → DuckHolds r kicks n marks s → DuckedHolds r true kicks n marks s
from_held r kicks n marks s h = record { within = h.within; kept = h.kept; risen = h.risen; held = λ e. h }

ducked_relates : (r : DuckRate) (ducked : Bool) (kicks : List ℕ) (d : Bool) → Relates (DuckedHolds r ducked kicks) (ducked_step r ducked kicks d) (ducked_step_on r ducked d)
unfolding ducked_step ducked_step_on
ducked_relates r true kicks d =
    record {
      keeps = λ n m s x h. from_held r kicks (n + 1) _ _ ((duck_relates r kicks d).keeps n m s x (h.held refl));
      same = λ n m s x h. (duck_relates r kicks d).same n m s x (h.held refl);
    }
ducked_relates r false kicks d =
    unfold identity in
    record {
      keeps = λ n m s x h. record { within = h.within; kept = h.kept; risen = h.risen; held = λ e. absurd (true≢false (sym e)) };
      same = λ n m s x h. refl;
    }

-- ---- the tuning

-- the tape is tuned as the sample at k is to be
pub record TunedFor (r : TapeRate) (s : TapeSetup) (daylight : Ramp) (l : Lists) (k : ℕ) (t : Tape) : Type 0 where
  pub tone : lowpass_retuned t.tone (tuning_at s.tone daylight l.positions l.values k).corner r.hz ≡ t.tone
  pub drive : t.drive ≡ (tuning_at s.tone daylight l.positions l.values k).drive
  pub top : t.top ≡ TANH t.drive

-- as each sample is to be for which its tuning holds
pub Lasting : TapeRate → TapeSetup → Ramp → Lists → ℕ → Tape → Type 0
Lasting r s daylight l n t = (k : ℕ) → n ≤ k → k < t.until → TunedFor r s daylight l k t

module _ (r : TapeRate) (s : TapeSetup) (daylight : Ramp) (l : Lists) (n : ℕ) (t : Tape) where
  abbrev tuning : ℕ → Tuning
  tuning = tuning_at s.tone daylight l.positions l.values

  abbrev now_tuned : Tape
  now_tuned = tuned_at r s.tone daylight l.positions l.values n t

  afresh_lasts : Lasting r s daylight l n (tuned_afresh r s.tone daylight l.positions l.values n t)
  unfolding Lasting tuned_afresh piece_at
  afresh_lasts k h i =
      let j : n + (k - n) ≡ k = omega arith in
      let e : tuning k ≡ tuning n = ap tuning (sym j) ∙ same_tuning s.tone daylight l.positions l.values n (k - n) (omega arith) in
      record { tone = rw e (lowpass_again t.tone (tuning n).corner (tuning n).corner r.hz); drive = rw e; top = refl }

  module _ (h : Lasting r s daylight l n t) where
    record Now (u : Tape) : Type 0 where
      lasts : Lasting r s daylight l n u
      tone : u.tone ≡ lowpass_retuned t.tone (tuning n).corner r.hz

    is_now : Now now_tuned
    unfolding tuned_at
    is_now = elim (dec_lt n t.until) [
      | yes i ↦ rw (lt-ltb n t.until i) (record { lasts = h; tone = unfold Lasting in (sym (h n (omega arith) i).tone) })
      | no i ↦ rw (le-ltb n t.until (omega arith)) (record { lasts = afresh_lasts; tone = unfold tuned_afresh piece_at in refl })
    ]

-- ---- the tape

pub record TapeHolds (r : TapeRate) (s : TapeSetup) (daylight : Ramp) (l : Lists) (n : ℕ) (m : TapeMachine) (t : TapeIn) : Type 0 where
  pub tone : m.tone ≡ t.tape.tone
  pub warp : m.warp ≡ line_of r.warp t.ring n
  pub sized : length t.ring ≡ r.warp.ring
  pub equalizer : m.equalizer ≡ t.tape.equalizer
  pub duck : DuckedHolds r.duck s.ducked l.kicks n m.marks (duck_on t.tape.duck t.counts)
  pub lasting : Lasting r s daylight l n t.tape

module _ (r : TapeRate) (usable : TapeUsable r) (s : TapeSetup) (daylight rain : Ramp) (l : Lists) (d : Bool) where
  module _ (n : ℕ) (m : TapeMachine) (t : TapeIn) (x : Float) (h : TapeHolds r s daylight l n m t) where
    room : r.warp.at + r.warp.ring ≤ length t.ring
    room = rw (h.sized, usable.placed) (omega arith)

    warp_pushed : (y : Float) → push_of r.warp.ring m.warp y ≡ line_of r.warp (line_push r.warp t.ring n y) (n + 1)
    warp_pushed y = rw h.warp (sym (line_push_lem r.warp usable.warp t.ring n y room))

    warp_read : (y delay : Float) → tap_of (at_of (push_of r.warp.ring m.warp y)) r.most delay ≡ line_tap r.warp (line_push r.warp t.ring n y) (n + 1) r.most delay
    warp_read y delay = rw (warp_pushed y) (line_tap_lem r.warp usable.warp (line_push r.warp t.ring n y) (n + 1) r.most delay usable.within)

    -- the kept tape, tuned for this sample, beside the machine's
    abbrev tuned : Tape
    tuned = now_tuned r s daylight l n t.tape

    ready : Now r s daylight l n t.tape h.lasting tuned
    ready = is_now r s daylight l n t.tape h.lasting

    for_now : TunedFor r s daylight l n tuned
    for_now = unfold Lasting in (ready.lasts n (omega arith) (tuned_some r s.tone daylight l.positions l.values n t.tape))

    tone_is : lowpass_retuned m.tone (tuning r s daylight l n t.tape n).corner r.hz ≡ tuned.tone
    tone_is = rw h.tone (sym ready.tone)

    equalizer_is : m.equalizer ≡ tuned.equalizer
    equalizer_is = h.equalizer ∙ sym (tuned_equalizer r s.tone daylight l.positions l.values n t.tape)

    saturated_is : (y : Float) → saturated (tuning r s daylight l n t.tape n).drive y ≡ saturated_over tuned.drive tuned.top y
    unfolding saturated
    saturated_is y = rw (for_now.top, for_now.drive)

    duck_is : DuckedHolds r.duck s.ducked l.kicks n m.marks (duck_on tuned.duck t.counts)
    duck_is = rw (tuned_duck r s.tone daylight l.positions l.values n t.tape) h.duck

    pub tape_same : (tape_step r s daylight rain l d n m x).out ≡ (tape_step_on r s daylight rain l d n t x).out
    unfolding tape_step tape_step_on tape_tuned front_step_on
    tape_same =
        rw (tone_is, warp_read _ (warp_delay r n), saturated_is _, equalizer_is)
        ((ducked_relates r.duck s.ducked l.kicks d).same n m.marks (duck_on tuned.duck t.counts) _ duck_is)

    lasts_on : Lasting r s daylight l (n + 1) (tape_step_on r s daylight rain l d n t x).next.tape
    unfolding Lasting tape_step_on tape_tuned front_step_on
    lasts_on k i j =
        let o = ready.lasts k (omega arith) j in
        record {
          tone =
              subst (λ (f : Lowpass). lowpass_retuned (lowpass_step f x) (tuning r s daylight l n t.tape k).corner r.hz ≡ lowpass_step f x) o.tone
              (lowpass_stepped tuned.tone (tuning r s daylight l n t.tape k).corner r.hz x);
          drive = o.drive;
          top = o.top;
        }

    pub tape_keeps : TapeHolds r s daylight l (n + 1) (tape_step r s daylight rain l d n m x).next (tape_step_on r s daylight rain l d n t x).next
    unfolding tape_step tape_step_on tape_tuned front_step_on
    tape_keeps =
        record {
          tone = rw (tone_is);
          warp = rw (tone_is) (warp_pushed _);
          sized = push_length r.warp t.ring n _ ∙ h.sized;
          equalizer = rw (tone_is, warp_read _ (warp_delay r n), saturated_is _, equalizer_is);
          duck =
              rw (tone_is, warp_read _ (warp_delay r n), saturated_is _, equalizer_is)
              ((ducked_relates r.duck s.ducked l.kicks d).keeps n m.marks (duck_on tuned.duck t.counts) _ duck_is);
          lasting = lasts_on;
        }

  pub tape_relates : Relates (TapeHolds r s daylight l) (tape_step r s daylight rain l d) (tape_step_on r s daylight rain l d)
  tape_relates = record { keeps = tape_keeps; same = tape_same }

-- ---- before the first sample, over a ring of zeros

module _ (r : TapeRate) (usable : TapeUsable r) (s : TapeSetup) (daylight : Ramp) (l : Lists) (part : List ℕ) where
  pub tape_fresh : length l.kicks ≤ most_kicks → duck_counts ≤ length part → rising_from 0 l.kicks ≡ true
      → TapeHolds r s daylight l 0 (fresh_tape_machine r l.kicks) (tape_on (fresh_tape r (length l.kicks)) (replicate r.warp.ring nought) (laid l.kicks part).part)
  unfolding fresh_tape_machine fresh_tape Lasting
  tape_fresh few wide risen =
      let h : DuckHolds r.duck l.kicks 0 (unmarked l.kicks) (laid l.kicks part) = duck_fresh r.duck l.kicks part few wide risen in
      record {
        tone = refl;
        warp = sym (line_fresh r.warp usable.warp r.warp.ring (rw usable.placed (omega arith)) 0);
        sized = length-replicate r.warp.ring nought;
        equalizer = refl;
        duck = record { within = h.within; kept = h.kept; risen = h.risen; held = λ e. h };
        lasting = λ k i j. absurd (omega arith);
      }

-- ---- the tuning given up, under any ramp: document 01's lane is tuned at every sample

pub tape_untuned : (r : TapeRate) (s : TapeSetup) (before after : Ramp) (l : Lists) (n : ℕ) (m : TapeMachine) (t : TapeIn) → TapeHolds r s before l n m t
    → TapeHolds r s after l n m (tape_on (untuned t.tape) t.ring t.counts)
unfolding Lasting
tape_untuned r s before after l n m t h =
    record { tone = h.tone; warp = h.warp; sized = h.sized; equalizer = h.equalizer; duck = h.duck; lasting = λ k i j. absurd (omega arith) }

-- ---- the rest answer

pub tape_rest : (r : TapeRate) → TapeUsable r → (s : TapeSetup) (daylight : Ramp) (l : Lists) (n : ℕ) (m : TapeMachine) (t : TapeIn) → TapeHolds r s daylight l n m t
    → tape_at_rest m ≡ tape_at_rest_on t.tape.tone t.tape.equalizer t.ring
unfolding tape_at_rest tape_at_rest_on
tape_rest r usable s daylight l n m t h =
    let e : all_zero (line_of r.warp t.ring n) ≡ all_zero t.ring =
    line_rest r.warp usable.warp t.ring n (rw (h.sized, usable.placed) (omega arith))
    ∙ rw usable.placed (ap all_zero (take_all r.warp.ring t.ring (rw h.sized (omega arith)))) in
    rw (h.tone, h.equalizer, h.warp, e)

pub tape_fresh_rests : (r : TapeRate) (kicks : List ℕ) → tape_at_rest (fresh_tape_machine r kicks) ≡ true
unfolding tape_at_rest equalizer_at_rest fresh_tape_machine fresh_tone fresh_equalizer section_at section_at_rest lowpass_at_rest one_pole_at_rest eq of_bits
tape_fresh_rests r kicks = zero_fresh r.warp.ring

-- ---- a sample leaves the parts as long as they were

ducked_sized : (r : DuckRate) (ducked d : Bool) (n : ℕ) (s : DuckIn) (x : Float) → length (ducked_step_on r ducked d n s x).next.part ≡ length s.part
unfolding ducked_step_on
ducked_sized r true d n s x = unfold duck_step_on in gain_sized r d n s
ducked_sized r false d n s x = unfold identity in refl

module _ (r : TapeRate) (s : TapeSetup) (daylight rain : Ramp) (l : Lists) (d : Bool) (n : ℕ) (t : TapeIn) (x : Float) where
  pub ring_sized : length (tape_step_on r s daylight rain l d n t x).next.ring ≡ length t.ring
  unfolding tape_step_on tape_tuned front_step_on
  ring_sized = push_length r.warp t.ring n _

  pub counts_sized : length (tape_step_on r s daylight rain l d n t x).next.counts ≡ length t.counts
  unfolding tape_step_on tape_tuned
  counts_sized = ducked_sized r.duck s.ducked d n _ _

-- ---- refusal 4 does not decline such a lane's duck

pub tape_formed : (r : TapeRate) (s : TapeSetup) (daylight : Ramp) (l : Lists) (n : ℕ) (m : TapeMachine) (t : TapeIn) → TapeHolds r s daylight l n m t → duck_formed (duck_on t.tape.duck t.counts) ≡ true
unfolding duck_formed
tape_formed r s daylight l n m t h =
    let d = h.duck in
    let w = d.within in
    rw (le-leb _ _ w.few, le-leb _ _ w.reached, le-leb _ _ w.ducking, d.kept) d.risen
