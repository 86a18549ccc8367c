-- Demand 3 for C (specs/Promise.antt): the packed strip reads back as the strip that the call before gave, so that a list of calls through the library is answered as the strip's own. Assumes nothing.
use mathlib.Core.Path.{◌≡◌, refl, sym, ap, ◌∙◌, subst}
use Prim.Native.Nat.{ℕ, ◌+◌, ◌/◌, ◌%◌}
use Rattle.std.specs.Prelude.{Result, Ok, Err, ⊤}
use mathlib.Core.Bool.{Bool, true, false, cond, true≢false}
use mathlib.Core.List.{List, [], ◌∷◌, map}
use lib.Dec.{leb, eqb}
use lib.ListN.{length, drop}
use lib.Ieee.{Float}
use borrow.Author.Tests.{eq-eqb}
use Rattle.stage.specs.Stage.{ran}
use Rattle.stage.specs.System.{through, asked}
use Rattle.stage.proofs.System.{Alike, answers_alike, through_asked}
use Rattle.rate.specs.declared.Rate.{Rate}
use Rattle.rate.specs.Rate.{rate_of, RateUsable}
use Rattle.rate.proofs.Rates.{usable_44100}
use Rattle.tape.specs.Tape.{Lists}
use Rattle.strip.specs.declared.Setup.{Setup}
use Rattle.strip.specs.declared.Controls.{Controls}
use Rattle.strip.specs.declared.Lane.{Lane}
use Rattle.strip.specs.declared.Strip as strips
use Rattle.strip.specs.declared.Refusal.{Refusal}
use Rattle.strip.specs.declared.Refusal.TheVariants.{StoreShort, BadSetup, BadList, BadStrip, BadOutput, PastEnd, BadSample, BadControl}
use Rattle.strip.specs.declared.Declined.{Declined}
use Rattle.strip.specs.Refusals.{number_of}
use Rattle.master.specs.Kept.{frames_out, counts_out}
use Rattle.part.specs.Pieces.{went}
use Rattle.strip.specs.Kept.{lane_step_on, State, state, step_on, ran_on, heard_on, opened_lane, opened_state, lane_latched_on, latched_strip}
use Rattle.strip.specs.Calls.{first_of, unless, declined_with, open_grounds, run_grounds, latch_grounds, first, OpenDone, RunDone, open_call, run_call, latch_call, rest_call}
use Rattle.strip.specs.Machine.{fresh}
use Rattle.strip.specs.Promise.{strip_of, run_answer, move_answer, rest_answer, answer_to, after, part_system, machine_system}
use Rattle.strip.proofs.Joined.{rest_leaves, answered}
use Rattle.strip.proofs.Demand3.{joined_of}
use Rattle.packing.specs.Packing.{packed_numbers, packed_words, roomy, unpacked}
use Rattle.packing.specs.Inverse.{Single, ToneSingle, PadSingle, Singles}
use Rattle.packing.proofs.Inverse.{inverse, flag_is}
use Rattle.setup.specs.Setup.{number_at, setup_of, tone_of, pad_of, tape_setup_of}
use Rattle.goqhari.specs.Library.{Back, back, packed_back, opened_back, outcome_back, declined_by, Opening, opening, open_done, library_open, drumming, running, run_done, run_from, library_run, latch_from, library_latch, lent_strip, rested_back, rest_from, library_rest}
use Rattle.goqhari.specs.Promise.{LibraryCall, run, latch, rest, call_of, Lent, lent, run_says, latch_says, rest_says, answer_of, run_leaves, left_by, library_system, open_leaves, EveryLibraryList, LibraryJoinedAt, LibraryDemand3}

-- ---- what an answer is: a refusal hands the strip back, and its number is not 0; else the setup is kept

abbrev Tells : strips.Strip → Result strips.Strip Declined → Type 0
Tells s (Ok t) = t.lane.setup ≡ s.lane.setup
Tells s (Err d) = d.strip ≡ s

not_nought : (k : Refusal) → eqb (number_of k) 0 ≡ false
not_nought StoreShort = refl
not_nought BadSetup = refl
not_nought BadList = refl
not_nought BadStrip = refl
not_nought BadOutput = refl
not_nought PastEnd = refl
not_nought BadSample = refl
not_nought BadControl = refl

no_zero : (k : Refusal) → number_of k ≡ 0 → ⊥
no_zero k e = true≢false (sym (eq-eqb (number_of k) 0 e) ∙ not_nought k)

setup_kept : (r : Rate) (d : Bool) (n : ℕ) (st : State) (xs : List Float) → (ran (step_on r d) n st xs).strip.lane.setup ≡ st.strip.lane.setup
unfolding ran step_on lane_step_on
setup_kept r d n st [] = refl
setup_kept r d n st (x ∷ xs) = setup_kept r d (n + 1) (step_on r d n st x).next xs

run_either : (s : strips.Strip) (q : Result ⊤ Refusal) (x : RunDone) (f : Refusal → RunDone) → Tells s x.answer → ((k : Refusal) → Tells s (f k).answer) → Tells s (unless q x f).answer
run_either s (Ok t) x f h g = h
run_either s (Err k) x f h g = g k

run_tells : (r : Rate) (st : State) (xs : List Float) (d : Bool) (frames : List Float) (gains : List ℕ) → Tells st.strip (run_call r st xs d frames gains).answer
unfolding run_call
run_tells r st xs d frames gains =
    let o = ran_on r d st xs in
    let h = heard_on r d st xs in
    run_either st.strip (first r st (run_grounds st.strip.position xs (length frames) (length gains)))
    (went (Ok o.strip) o.store o.counts (frames_out h) (counts_out h))
    (λ k. went (Err (declined_with k st.strip)) st.store st.counts frames gains)
    (setup_kept r d st.strip.position st xs) (λ k. refl)

latch_either : (s : strips.Strip) (q : Result ⊤ Refusal) (x : Result strips.Strip Declined) (f : Refusal → Result strips.Strip Declined) → Tells s x → ((k : Refusal) → Tells s (f k)) → Tells s (unless q x f)
latch_either s (Ok t) x f h g = h
latch_either s (Err k) x f h g = g k

latch_tells : (r : Rate) (st : State) (c : Controls) → Tells st.strip (latch_call r st c)
unfolding latch_call latched_strip lane_latched_on
latch_tells r st c = latch_either st.strip (first r st (latch_grounds c)) (Ok (latched_strip st.strip c)) (λ k. Err (declined_with k st.strip)) refl (λ k. refl)

-- ---- the memory holds the strip

pub record Holds (m : Lent) (st : State) : Type 0 where
  pub strip : unpacked m.numbers m.words ≡ Ok st.strip
  pub singles : Singles st.strip.lane
  pub store : m.store ≡ st.store
  pub counts : m.counts ≡ st.counts

singles_of : (s t : Lane) → t.setup ≡ s.setup → Singles s → Singles t
singles_of s t e h =
    record {
      tone = subst (λ (u : Setup). ToneSingle u.tape.tone) (sym e) h.tone;
      pad = subst (λ (u : Setup). PadSingle u.tape.pad) (sym e) h.pad;
      daylight = subst (λ (u : Setup). Single u.daylight) (sym e) h.daylight;
      rain = subst (λ (u : Setup). Single u.rain) (sym e) h.rain;
    }

-- what is written back is read again
written_back : (s : strips.Strip) → Singles s.lane → (ns : List Float) (ws : List ℕ) → unpacked (packed_back s ns ws).numbers (packed_back s ns ws).words ≡ Ok s
unfolding packed_back
written_back s h ns ws = inverse.back s h (drop (length (packed_numbers s)) ns) (drop (length (packed_words s)) ws)

module _ (s : strips.Strip) (h : Singles s.lane) (ns : List Float) (ws : List ℕ) (e : unpacked ns ws ≡ Ok s) where
  outcome_read : (o : Result strips.Strip Declined) → Tells s o → unpacked (outcome_back o ns ws).numbers (outcome_back o ns ws).words ≡ Ok (strip_of o)
  unfolding outcome_back
  outcome_read (Ok t) k = written_back t (singles_of s.lane t.lane k h) ns ws
  outcome_read (Err d) k = e ∙ ap (λ (t : strips.Strip). Ok t) (sym k)

  outcome_singles : (o : Result strips.Strip Declined) → Tells s o → Singles (strip_of o).lane
  outcome_singles (Ok t) k = singles_of s.lane t.lane k h
  outcome_singles (Err d) k = singles_of s.lane d.strip.lane (ap (λ (u : strips.Strip). u.lane.setup) k) h

-- ---- what an answer says

run_said : (o : RunDone) (ns : List Float) (ws : List ℕ) → run_says (run_done o ns ws) ≡ run_answer o.answer o.frames o.gains
unfolding run_says run_done outcome_back packed_back
run_said o ns ws = go o.answer
  where
    go : (a : Result strips.Strip Declined) → run_says (running (outcome_back a ns ws) o.store o.counts o.frames o.gains) ≡ run_answer a o.frames o.gains
    go (Ok t) = refl
    go (Err d) = rw (not_nought d.refusal)

latch_said : (o : Result strips.Strip Declined) (ns : List Float) (ws : List ℕ) → latch_says (outcome_back o ns ws) ≡ move_answer o
unfolding latch_says outcome_back packed_back
latch_said (Ok t) ns ws = refl
latch_said (Err d) ns ws = rw (not_nought d.refusal)

rest_said : (a : Result Bool Declined) (was : ℕ) → rest_says (rested_back a (was ∷ [])) ≡ rest_answer a
unfolding rest_says rested_back
rest_said (Ok b) was = rw (flag_is b)
rest_said (Err d) was = rw (not_nought d.refusal)

-- ---- one call

module _ (r : Rate) (m : Lent) (st : State) (h : Holds m st) where
  library_run_lem : (xs : List Float) (drums : ℕ) (frames : List Float) (gains : List ℕ)
      → library_run r m.numbers m.words xs drums m.store m.counts frames gains ≡ run_done (run_call r st xs (drumming drums) frames gains) m.numbers m.words
  unfolding library_run run_from lent_strip
  library_run_lem xs drums frames gains = rw h.strip (rw h.store (rw h.counts))

  library_latch_lem : (c : Controls) → library_latch r m.numbers m.words c m.store m.counts ≡ outcome_back (latch_call r st c) m.numbers m.words
  unfolding library_latch latch_from lent_strip
  library_latch_lem c = rw h.strip (rw h.store (rw h.counts))

  library_rest_lem : (was : ℕ) → library_rest r m.numbers m.words (was ∷ []) m.store m.counts ≡ rested_back (rest_call r st) (was ∷ [])
  unfolding library_rest rest_from lent_strip
  library_rest_lem was = rw h.strip (rw h.store (rw h.counts))

  answer_is : (c : LibraryCall) → answer_of r m c ≡ answer_to r st (call_of c)
  unfolding answer_of answer_to
  answer_is (run xs drums frames gains) =
      let d = drumming drums in
      ap run_says (library_run_lem xs drums frames gains) ∙ run_said (run_call r st xs d frames gains) m.numbers m.words
  answer_is (latch c) = ap latch_says (library_latch_lem c) ∙ latch_said (latch_call r st c) m.numbers m.words
  answer_is (rest was) = ap rest_says (library_rest_lem was) ∙ rest_said (rest_call r st) was

  left_holds : (c : LibraryCall) → Holds (left_by r m c) (after r st (call_of c))
  unfolding left_by after run_done
  left_holds (run xs drums frames gains) =
      let d = drumming drums in
      let o = run_call r st xs d frames gains in
      let t = run_tells r st xs d frames gains in
      subst (λ (q : Lent). Holds q (state (strip_of o.answer) o.store o.counts)) (ap run_leaves (sym (library_run_lem xs drums frames gains))) (ran_holds o t)
    where
      ran_holds : (o : RunDone) → Tells st.strip o.answer → Holds (run_leaves (run_done o m.numbers m.words)) (state (strip_of o.answer) o.store o.counts)
      ran_holds o t =
          record {
            strip = outcome_read st.strip h.singles m.numbers m.words h.strip o.answer t;
            singles = outcome_singles st.strip h.singles m.numbers m.words h.strip o.answer t;
            store = refl;
            counts = refl;
          }
  left_holds (latch c) =
      let o = latch_call r st c in
      let t = latch_tells r st c in
      subst (λ (b : Back). Holds (lent b.numbers b.words m.store m.counts) (state (strip_of o) st.store st.counts)) (sym (library_latch_lem c))
      (record {
        strip = outcome_read st.strip h.singles m.numbers m.words h.strip o t;
        singles = outcome_singles st.strip h.singles m.numbers m.words h.strip o t;
        store = h.store;
        counts = h.counts;
      })
  left_holds (rest was) = subst (λ (s : State). Holds m s) (sym (rest_leaves r st)) h

-- ---- a list of calls

library_alike : (r : Rate) → Alike Holds (library_system r) (asked call_of (part_system r))
library_alike r = record { same = λ m st c h. answer_is r m st h c; keeps = λ m st c h. left_holds r m st h c }

answers_are : (r : Rate) (m : Lent) (st : State) → Holds m st → (cs : List LibraryCall) → through (library_system r) m cs ≡ through (part_system r) st (map call_of cs)
answers_are r m st h cs = answers_alike Holds (library_system r) (asked call_of (part_system r)) (library_alike r) m st cs h ∙ through_asked call_of (part_system r) st cs

-- ---- open

setup_singles : (singles doubles : List Float) (flags : ℕ) → ((k : ℕ) → Single (number_at singles k)) → (s : Lane) → s.setup ≡ setup_of singles doubles flags → Singles s
unfolding setup_of tape_setup_of tone_of pad_of
setup_singles singles doubles flags f s e =
    record {
      tone = subst (λ (u : Setup). ToneSingle u.tape.tone) (sym e) (tone (eqb (flags % 2) 1));
      pad = subst (λ (u : Setup). PadSingle u.tape.pad) (sym e) (pad (eqb (flags / 2 % 2) 1));
      daylight = subst (λ (u : Setup). Single u.daylight) (sym e) (f 6);
      rain = subst (λ (u : Setup). Single u.rain) (sym e) (f 7);
    }
  where
    tone : (b : Bool) → ToneSingle (tone_of singles (number_at doubles 0) b)
    tone true = (f 0, f 1, f 2, f 3)
    tone false = f 0

    pad : (b : Bool) → PadSingle (pad_of (number_at singles 4) (number_at singles 5) b)
    pad true = (f 4, f 5)
    pad false = tt

-- an accepted open: the strip, its setup, and the memory
pub record Opens (r : Rate) (s : Setup) (l : Lists) (ns : List Float) (ws : List ℕ) (store : List Float) (counts : List ℕ) (o : Opening) : Type 0 where
  pub strip : strips.Strip
  pub answer : (open_call r s l store counts).answer ≡ Ok strip
  pub setup : strip.lane.setup ≡ s
  pub memory : open_leaves o ≡ lent (packed_back strip ns ws).numbers (packed_back strip ns ws).words (open_call r s l store counts).store (open_call r s l store counts).counts

abbrev Gives : Setup → Result strips.Strip Refusal → Type 0
Gives s (Ok t) = t.lane.setup ≡ s
Gives s (Err k) = ⊤

open_either : (s : Setup) (q : Result ⊤ Refusal) (x : OpenDone) (f : Refusal → OpenDone) → Gives s x.answer → ((k : Refusal) → Gives s (f k).answer) → Gives s (unless q x f).answer
open_either s (Ok t) x f h g = h
open_either s (Err k) x f h g = g k

open_gives : (r : Rate) (s : Setup) (l : Lists) (store : List Float) (counts : List ℕ) → Gives s (open_call r s l store counts).answer
unfolding open_call opened_state opened_lane
open_gives r s l store counts =
    let o = opened_state r s l store counts in
    open_either s (first_of (open_grounds r s l store counts))
    (record { answer = Ok o.strip; store = o.store; counts = o.counts })
    (λ k. record { answer = Err k; store = store; counts = counts })
    refl (λ k. tt)

module _ (r : Rate) (s : Setup) (l : Lists) (ns : List Float) (ws : List ℕ) (store : List Float) (counts : List ℕ) where
  open_opens : (o : OpenDone) → o ≡ open_call r s l store counts → (a : Result strips.Strip Refusal) → o.answer ≡ a → Gives s a → (opened_back a ns ws).answer ≡ 0 → Opens r s l ns ws store counts (open_done o ns ws)
  unfolding opened_back open_done
  open_opens o e (Ok t) f g z =
      record {
        strip = t;
        answer = ap (λ (q : OpenDone). q.answer) (sym e) ∙ f;
        setup = g;
        memory = rw f (rw e);
      }
  open_opens o e (Err k) f g z = absurd (no_zero k z)

  opens_by : (a b : Bool)
      → (cond a (cond b (open_done (open_call r s l store counts) ns ws) (opening (back (number_of (declined_by r BadSetup store counts)) ns ws) store counts)) (opening (back (number_of StoreShort) ns ws) store counts)).back.answer ≡ 0
      → Opens r s l ns ws store counts (cond a (cond b (open_done (open_call r s l store counts) ns ws) (opening (back (number_of (declined_by r BadSetup store counts)) ns ws) store counts)) (opening (back (number_of StoreShort) ns ws) store counts))
  unfolding open_done
  opens_by true true z = open_opens (open_call r s l store counts) refl (open_call r s l store counts).answer refl (open_gives r s l store counts) z
  opens_by true false z = absurd (no_zero (declined_by r BadSetup store counts) z)
  opens_by false b z = absurd (no_zero StoreShort z)

pub library_answers : (r : Rate) → RateUsable r → EveryLibraryList r (λ s l cs answers. answers ≡ through (machine_system r) (fresh r s l) cs)
unfolding library_open
library_answers r u singles doubles flags l ns ws store counts f z cs =
    let s = setup_of singles doubles flags in
    let o = opens_by r s l ns ws store counts (roomy ns ws) (leb flags 15) z in
    let h = setup_singles singles doubles flags f o.strip.lane o.setup in
    ap (λ (m : Lent). through (library_system r) m cs) o.memory
    ∙ answers_are r _ (state o.strip (open_call r s l store counts).store (open_call r s l store counts).counts) (record { strip = written_back o.strip h ns ws; singles = h; store = refl; counts = refl }) cs
    ∙ answered r u s l store counts o.strip o.answer (map call_of cs)

pub library_joined : (r : Rate) → RateUsable r → LibraryJoinedAt r
unfolding LibraryJoinedAt
library_joined r u singles doubles flags l ns ws store counts f z cs =
    joined_of r u (setup_of singles doubles flags) l (map call_of cs) _ (library_answers r u singles doubles flags l ns ws store counts f z cs)

-- DEMAND 3 for C
pub library_demand3 : LibraryDemand3
library_demand3 = record { joined = library_joined (rate_of 44100) usable_44100 }
