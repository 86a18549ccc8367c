-- The four calls on a packed strip: `open_call`, `run_call`, `latch_call` and `rest_call` of crate strip through the packing, with each answer as a number
-- (0, or the refusal's) and every lent element. Definitions only.
use Rattle.std.specs.Prelude.{ℕ, Bool, not, cond, List, leb, eqb, set, Float, Result, Ok, Err}
use Rattle.stage.specs.Stage.{over}
use Rattle.rate.specs.declared.Rate.{Rate}
use Rattle.tape.specs.Tape.{Lists}
use Rattle.strip.specs.declared.Controls.{Controls}
use Rattle.strip.specs.declared.Strip as strips
use Rattle.strip.specs.declared.Refusal.{Refusal}
use Rattle.strip.specs.declared.Refusal.TheVariants.{StoreShort, BadSetup, BadStrip}
use Rattle.strip.specs.declared.Declined.{Declined}
use Rattle.strip.specs.Refusals.{long_enough, number_of}
use Rattle.strip.specs.Kept.{state}
use Rattle.strip.specs.Calls.{OpenDone, RunDone, open_call, run_call, latch_call, rest_call}
use Rattle.packing.specs.declared.UnpackError.{UnpackError}
use Rattle.packing.specs.declared.UnpackError.TheVariants.{Short, Malformed}
use Rattle.packing.specs.Packing.{flagged, packed_numbers, packed_words, roomy, unpacked}
use Rattle.setup.specs.Setup.{setup_of}

-- an answer, with the packed strip as the call leaves it
pub record Back : Type 0 where
  pub answer : ℕ
  pub numbers : List Float
  pub words : List ℕ

abbrev pub back : ℕ → List Float → List ℕ → Back
back k ns ws = record { answer = k; numbers = ns; words = ws }

-- a strip written over the packed one; what lies behind its numbers and words stays
unfoldable pub packed_back : strips.Strip → List Float → List ℕ → Back
packed_back s ns ws = back 0 (over (packed_numbers s) ns) (over (packed_words s) ws)

-- 0, or the refusal's number
abbrev pub number : {X : Type 0} → Result X Refusal → ℕ
number (Ok x) = 0
number (Err k) = number_of k

-- what open answers, and what run and latch answer: a refusal leaves the packed strip as it was
unfoldable pub opened_back : Result strips.Strip Refusal → List Float → List ℕ → Back
opened_back (Ok s) ns ws = packed_back s ns ws
opened_back (Err k) ns ws = back (number_of k) ns ws

unfoldable pub outcome_back : Result strips.Strip Declined → List Float → List ℕ → Back
outcome_back (Ok s) ns ws = packed_back s ns ws
outcome_back (Err d) ns ws = back (number_of d.refusal) ns ws

-- a refusal that 1 comes before
unfoldable pub declined_by : Rate → Refusal → List Float → List ℕ → Refusal
declined_by r k store counts = cond (long_enough r store counts) k StoreShort

-- the strip that run, latch and rest are lent: 1 where the packed strip has no room, whatever the stores; 4 where it is none
abbrev pub strip_read : Rate → Result strips.Strip UnpackError → List Float → List ℕ → Result strips.Strip Refusal
strip_read r (Ok s) store counts = Ok s
strip_read r (Err Short) store counts = Err StoreShort
strip_read r (Err Malformed) store counts = Err (declined_by r BadStrip store counts)

unfoldable pub lent_strip : Rate → List Float → List ℕ → List Float → List ℕ → Result strips.Strip Refusal
lent_strip r ns ws store counts = strip_read r (unpacked ns ws) store counts

-- ---- open

pub record Opening : Type 0 where
  pub back : Back
  pub store : List Float
  pub counts : List ℕ

abbrev pub opening : Back → List Float → List ℕ → Opening
opening b store counts = record { back = b; store = store; counts = counts }

unfoldable pub open_done : OpenDone → List Float → List ℕ → Opening
open_done o ns ws = opening (opened_back o.answer ns ws) o.store o.counts

-- 1 where the packed strip has no room, whatever the stores; 2 where a flag is set that means nothing
unfoldable pub library_open : Rate → List Float → List Float → ℕ → Lists → List Float → List ℕ → List Float → List ℕ → Opening
library_open r singles doubles flags l ns ws store counts =
    cond (roomy ns ws)
    (cond (leb flags 15) (open_done (open_call r (setup_of singles doubles flags) l store counts) ns ws) (opening (back (number_of (declined_by r BadSetup store counts)) ns ws) store counts))
    (opening (back (number_of StoreShort) ns ws) store counts)

-- ---- run

pub record Running : Type 0 where
  pub back : Back
  pub store : List Float
  pub counts : List ℕ
  pub frames : List Float
  pub gains : List ℕ

abbrev pub running : Back → List Float → List ℕ → List Float → List ℕ → Running
running b store counts frames gains = record { back = b; store = store; counts = counts; frames = frames; gains = gains }

unfoldable pub run_done : RunDone → List Float → List ℕ → Running
run_done o ns ws = running (outcome_back o.answer ns ws) o.store o.counts o.frames o.gains

unfoldable pub run_from : Rate → Result strips.Strip Refusal → List Float → List ℕ → List Float → Bool → List Float → List ℕ → List Float → List ℕ → Running
run_from r (Ok s) ns ws xs d store counts frames gains = run_done (run_call r (state s store counts) xs d frames gains) ns ws
run_from r (Err k) ns ws xs d store counts frames gains = running (back (number_of k) ns ws) store counts frames gains

-- drums: 0 is off, anything else on
unfoldable pub drumming : ℕ → Bool
drumming drums = not (eqb drums 0)

unfoldable pub library_run : Rate → List Float → List ℕ → List Float → ℕ → List Float → List ℕ → List Float → List ℕ → Running
library_run r ns ws xs drums store counts frames gains = run_from r (lent_strip r ns ws store counts) ns ws xs (drumming drums) store counts frames gains

-- ---- latch

unfoldable pub latch_from : Rate → Result strips.Strip Refusal → List Float → List ℕ → Controls → List Float → List ℕ → Back
latch_from r (Ok s) ns ws c store counts = outcome_back (latch_call r (state s store counts) c) ns ws
latch_from r (Err k) ns ws c store counts = back (number_of k) ns ws

unfoldable pub library_latch : Rate → List Float → List ℕ → Controls → List Float → List ℕ → Back
library_latch r ns ws c store counts = latch_from r (lent_strip r ns ws store counts) ns ws c store counts

abbrev pub controls : Float → ℕ → Float → ℕ → Controls
controls daylight grading rain darkening = record { daylight = daylight; grading = grading; rain = rain; darkening = darkening }

-- ---- rest

pub record Resting : Type 0 where
  pub answer : ℕ
  pub rests : List ℕ

abbrev pub resting : ℕ → List ℕ → Resting
resting k rests = record { answer = k; rests = rests }

unfoldable pub rested_back : Result Bool Declined → List ℕ → Resting
rested_back (Ok b) rests = resting 0 (set rests 0 (flagged b))
rested_back (Err d) rests = resting (number_of d.refusal) rests

unfoldable pub rest_from : Rate → Result strips.Strip Refusal → List ℕ → List Float → List ℕ → Resting
rest_from r (Ok s) rests store counts = rested_back (rest_call r (state s store counts)) rests
rest_from r (Err k) rests store counts = resting (number_of k) rests

unfoldable pub library_rest : Rate → List Float → List ℕ → List ℕ → List Float → List ℕ → Resting
library_rest r ns ws rests store counts = rest_from r (lent_strip r ns ws store counts) rests store counts
