-- The four calls on a strip and its two stores: what each gives and leaves, to the last element.
use Rattle.std.specs.Prelude.{ℕ, Bool, cond, List, [], ◌∷◌, ◌++◌, length, Float, Result, Ok, Err, ⊤}
use Rattle.rate.specs.declared.Rate.{Rate}
use Rattle.tape.specs.Tape.{Lists}
use Rattle.master.specs.Kept.{frames_out, counts_out}
use Rattle.strip.specs.declared.Setup.{Setup}
use Rattle.strip.specs.declared.Controls.{Controls}
use Rattle.strip.specs.declared.Strip.{Strip}
use Rattle.strip.specs.declared.Refusal.{Refusal}
use Rattle.strip.specs.declared.Refusal.TheVariants.{StoreShort, BadSetup, BadList, BadStrip, BadOutput, PastEnd, BadSample, BadControl}
use Rattle.strip.specs.declared.Declined.{Declined}
use Rattle.strip.specs.Refusals.{long_enough, ok_setup, ok_lists, ok_outputs, ok_end, ok_samples, ok_controls}
use Rattle.strip.specs.Kept.{State, ran_on, heard_on, formed, opened_state, latched_strip, resting_on}

-- ---- the refusals: "Checked in this order; the first that fits is returned."

-- of tests with their refusals, that of the first that fails
unfoldable pub first_of : List (Bool × Refusal) → Result ⊤ Refusal
first_of [] = Ok tt
first_of (g ∷ gs) = cond g.0 (first_of gs) (Err g.1)

-- x where all tests pass, or else what f makes of the refusal
abbrev pub unless : {X : Type 0} → Result ⊤ Refusal → X → (Refusal → X) → X
unless (Ok t) x f = x
unless (Err k) x f = f k

abbrev pub open_grounds : Rate → Setup → Lists → List Float → List ℕ → List (Bool × Refusal)
open_grounds r s l store counts = (long_enough r store counts, StoreShort) ∷ (ok_setup s, BadSetup) ∷ (ok_lists l, BadList) ∷ []

-- what run, latch and rest ask of the strip that they are lent
abbrev pub strip_grounds : Rate → State → List (Bool × Refusal)
strip_grounds r st = (long_enough r st.store st.counts, StoreShort) ∷ (formed r st, BadStrip) ∷ []

-- what each of them asks of its own
abbrev pub run_grounds : ℕ → List Float → ℕ → ℕ → List (Bool × Refusal)
run_grounds position xs frames gains = (ok_outputs (length xs) frames gains, BadOutput) ∷ (ok_end position (length xs), PastEnd) ∷ (ok_samples xs, BadSample) ∷ []

abbrev pub latch_grounds : Controls → List (Bool × Refusal)
latch_grounds c = (ok_controls c, BadControl) ∷ []

abbrev pub rest_grounds : List (Bool × Refusal)
rest_grounds = []

-- the strip's, and then the call's own
unfoldable pub first : Rate → State → List (Bool × Refusal) → Result ⊤ Refusal
first r st own = first_of (strip_grounds r st ++ own)

-- a declined call hands back the strip as it came
abbrev pub declined_with : Refusal → Strip → Declined
declined_with k s = record { refusal = k; strip = s }

-- ---- open

pub record OpenDone : Type 0 where
  pub answer : Result Strip Refusal
  pub store : List Float
  pub counts : List ℕ

unfoldable pub open_call : Rate → Setup → Lists → List Float → List ℕ → OpenDone
open_call r s l store counts =
    let o = opened_state r s l store counts in
    unless (first_of (open_grounds r s l store counts))
    (record { answer = Ok o.strip; store = o.store; counts = o.counts })
    (λ k. record { answer = Err k; store = store; counts = counts })

-- ---- run

pub record RunDone : Type 0 where
  pub answer : Result Strip Declined
  pub store : List Float
  pub counts : List ℕ
  pub frames : List Float
  pub gains : List ℕ

-- "Run writes two f32 and one u64 count a sample."
unfoldable pub run_call : Rate → State → List Float → Bool → List Float → List ℕ → RunDone
run_call r st xs d frames gains =
    let o = ran_on r d st xs in
    let h = heard_on r d st xs in
    unless (first r st (run_grounds st.strip.position xs (length frames) (length gains)))
    (record { answer = Ok o.strip; store = o.store; counts = o.counts; frames = frames_out h; gains = counts_out h })
    (λ k. record { answer = Err (declined_with k st.strip); store = st.store; counts = st.counts; frames = frames; gains = gains })

-- ---- latch

unfoldable pub latch_call : Rate → State → Controls → Result Strip Declined
latch_call r st c = unless (first r st (latch_grounds c)) (Ok (latched_strip st.strip c)) (λ k. Err (declined_with k st.strip))

-- ---- rest

unfoldable pub rest_call : Rate → State → Result Bool Declined
rest_call r st = unless (first r st rest_grounds) (Ok (resting_on r st)) (λ k. Err (declined_with k st.strip))
