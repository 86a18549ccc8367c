-- Every list of calls, at any usable rate: what the strip answers is what the one-sample machine answers, and joined it is what the machine delivers. Assumes nothing.
use mathlib.Core.Path.{◌≡◌, refl, sym, ap, subst, subst⁻¹, ◌∙◌}
use mathlib.Core.Bool.{Bool}
use Prim.Native.Nat.{ℕ, ◌+◌}
use native.Mathlib.Omega.{arith}
use mathlib.Core.List.{List, [], ◌∷◌, ◌++◌, map, append_assoc}
use lib.ListN.{length}
use lib.Ieee.{Float}
use Rattle.std.specs.Prelude.{Result, Ok, Err, ⊤}
use Rattle.stage.specs.System.{through}
use Rattle.stage.proofs.System.{Alike, answers_alike}
use Rattle.rate.specs.declared.Rate.{Rate}
use Rattle.rate.specs.Rate.{RateUsable}
use Rattle.tape.specs.Tape.{Lists}
use Rattle.master.specs.declared.Heard.{Heard}
use Rattle.master.specs.Kept.{frames_out, counts_out}
use Rattle.strip.specs.declared.Setup.{Setup}
use Rattle.strip.specs.declared.Controls.{Controls}
use Rattle.strip.specs.declared.Strip.{Strip}
use Rattle.strip.specs.declared.Refusal.{Refusal}
use Rattle.strip.specs.Machine.{Machine, Event, sample, fresh, stepped, latched, fed, fed_all, delivers, heard_from}
use Rattle.strip.specs.Kept.{State, state, opened_state, resting_on}
use Rattle.strip.specs.Calls.{first_of, unless, declined_with, open_grounds, run_grounds, latch_grounds, first, OpenDone, open_call, run_call, latch_call, rest_call}
use Rattle.strip.specs.Promise.{Call, run, move, ask, rest_strip, answer_to, after, part_system, refusal, events_of, feeds, accepted, says, machine_system, frames_of, counts_of, joined_frames, joined_counts, takes, joined_events, EveryList}
use Rattle.strip.proofs.Refusals.{opens, runs_on, latch_room}
use Rattle.strip.proofs.Relates.{Stands, none_first, machine_position, run_stands, run_heard, latch_stands, same_rest, open_stands}

-- ---- one call

-- rest changes nothing: declined, it hands back the strip that it was lent
pub rest_leaves : (r : Rate) (st : State) → after r st ask ≡ st
unfolding after rest_call
rest_leaves r st = ap (λ (s : Strip). state s st.store st.counts) (go (first r st []))
  where
    go : (o : Result ⊤ Refusal) → rest_strip st.strip (unless o (Ok (resting_on r st)) (λ k. Err (declined_with k st.strip))) ≡ st.strip
    go (Ok t) = refl
    go (Err k) = refl

pub record Same (r : Rate) (m : Machine) (st : State) (c : Call) : Type 0 where
  pub answer : answer_to r st c ≡ says r m c
  pub stands : Stands r (fed_all r m (feeds m.position c)) (after r st c)

module _ (r : Rate) (u : RateUsable r) (m : Machine) (st : State) (g : Stands r m st) where
  by_run : (xs : List Float) (d : Bool) (frames : List Float) (gains : List ℕ) (q : Result ⊤ Refusal) → first_of (run_grounds m.position xs (length frames) (length gains)) ≡ q
      → Same r m st (run xs d frames gains)
  unfolding answer_to after run_call says feeds refusal accepted events_of fed_all
  by_run xs d frames gains (Ok t) e =
      let h = (runs_on m.position xs (length frames) (length gains) e).end in
      let f : first_of (run_grounds st.strip.position xs (length frames) (length gains)) ≡ Ok t = rw g.position at e in
      let o = none_first r m st g (run_grounds st.strip.position xs (length frames) (length gains)) in
      record {
        answer = rw (o, e, f, run_heard r u d xs m st g h);
        stands = rw (o, e, f) (run_stands r u d xs m st g h);
      }
  by_run xs d frames gains (Err k) e =
      let f : first_of (run_grounds st.strip.position xs (length frames) (length gains)) ≡ Err k = rw g.position at e in
      let o = none_first r m st g (run_grounds st.strip.position xs (length frames) (length gains)) in
      record {
        answer = rw (o, e, f);
        stands = rw (o, e, f) g;
      }

  by_move : (c : Controls) (q : Result ⊤ Refusal) → first_of (latch_grounds c) ≡ q → Same r m st (move c)
  unfolding answer_to after latch_call says feeds refusal accepted events_of fed_all fed
  by_move c (Ok t) e =
      let l = latch_room c e in
      record {
        answer = rw (none_first r m st g (latch_grounds c), e);
        stands = rw (none_first r m st g (latch_grounds c), e) (latch_stands r m st g c l.0 l.1);
      }
  by_move c (Err k) e =
      record {
        answer = rw (none_first r m st g (latch_grounds c), e);
        stands = rw (none_first r m st g (latch_grounds c), e) g;
      }

  by_ask : Same r m st ask
  unfolding answer_to rest_call says feeds refusal first_of accepted events_of fed_all
  by_ask = record { answer = rw (none_first r m st g [], same_rest r u m st g); stands = subst⁻¹ (Stands r m) (rest_leaves r st) g }

  pub one_call : (c : Call) → Same r m st c
  one_call (run xs d frames gains) = by_run xs d frames gains (first_of (run_grounds m.position xs (length frames) (length gains))) refl
  one_call (move c) = by_move c (first_of (latch_grounds c)) refl
  one_call ask = by_ask

-- ---- every list of calls

kept_alike : (r : Rate) → RateUsable r → Alike (λ st m. Stands r m st) (part_system r) (machine_system r)
kept_alike r u = record { same = λ st m c g. (one_call r u m st g c).answer; keeps = λ st m c g. (one_call r u m st g c).stands }

-- ---- from open on

same_strip : (a b : Strip) → ◌≡◌ {A = Result Strip Refusal} (Ok a) (Ok b) → a ≡ b
same_strip a b e = cc

no_strip : (k : Refusal) (b : Strip) → ◌≡◌ {A = Result Strip Refusal} (Err k) (Ok b) → ⊥
no_strip k b e = cc

abbrev done : State → OpenDone
done o = record { answer = Ok o.strip; store = o.store; counts = o.counts }

open_accepted : (r : Rate) (s : Setup) (l : Lists) (store : List Float) (counts : List ℕ) → first_of (open_grounds r s l store counts) ≡ Ok tt → open_call r s l store counts ≡ done (opened_state r s l store counts)
unfolding open_call
open_accepted r s l store counts e = rw e

open_declined : (r : Rate) (s : Setup) (l : Lists) (store : List Float) (counts : List ℕ) (k : Refusal) → first_of (open_grounds r s l store counts) ≡ Err k
    → (open_call r s l store counts).answer ≡ Err k
unfolding open_call
open_declined r s l store counts k e = rw e

module _ (r : Rate) (u : RateUsable r) (s : Setup) (l : Lists) (store : List Float) (counts : List ℕ) (t : Strip) (e : (open_call r s l store counts).answer ≡ Ok t) where
  by_grounds : (q : Result ⊤ Refusal) → first_of (open_grounds r s l store counts) ≡ q → Stands r (fresh r s l) (state t (open_call r s l store counts).store (open_call r s l store counts).counts)
  by_grounds (Ok i) f =
      let o = opened_state r s l store counts in
      let q : open_call r s l store counts ≡ done o = open_accepted r s l store counts f in
      let i : o.strip ≡ t = same_strip o.strip t (sym (ap (λ (w : OpenDone). w.answer) q) ∙ e) in
      subst⁻¹ (λ (w : OpenDone). Stands r (fresh r s l) (state t w.store w.counts)) q
      (subst (λ (v : Strip). Stands r (fresh r s l) (state v o.store o.counts)) i (open_stands r u s l store counts (opens r s l store counts f)))
  by_grounds (Err k) f = absurd (no_strip k t (sym (open_declined r s l store counts k f) ∙ e))

  pub opened_stands : Stands r (fresh r s l) (state t (open_call r s l store counts).store (open_call r s l store counts).counts)
  opened_stands = by_grounds (first_of (open_grounds r s l store counts)) refl

pub answered : (r : Rate) → RateUsable r → EveryList r (λ s l cs answers. answers ≡ through (machine_system r) (fresh r s l) cs)
answered r u s l store counts t e cs =
    answers_alike (λ st m. Stands r m st) (part_system r) (machine_system r) (kept_alike r u) (state t (open_call r s l store counts).store (open_call r s l store counts).counts) (fresh r s l) cs
    (opened_stands r u s l store counts t e)

-- ---- joined frames and counts

heard_append : (r : Rate) (m : Machine) (a b : List Event) → heard_from r m (a ++ b) ≡ heard_from r m a ++ heard_from r (fed_all r m a) b
unfolding heard_from fed_all
heard_append r m [] b = refl
heard_append r m (e ∷ a) b = rw (heard_append r (fed r m e) a b, append_assoc (delivers r m e) (heard_from r (fed r m e) a) (heard_from r (fed_all r (fed r m e) a) b))

frames_append : (a b : List Heard) → frames_out (a ++ b) ≡ frames_out a ++ frames_out b
unfolding frames_out
frames_append [] b = refl
frames_append (h ∷ a) b = rw (frames_append a b)

counts_append : (a b : List Heard) → counts_out (a ++ b) ≡ counts_out a ++ counts_out b
counts_append [] b = refl
counts_append (h ∷ a) b = rw (counts_append a b)

run_position : (r : Rate) (xs : List Float) (d : Bool) (m : Machine) → (fed_all r m (map (λ x. sample x d) xs)).position ≡ m.position + length xs
unfolding fed_all fed
run_position r [] d m = omega arith
run_position r (x ∷ xs) d m = run_position r xs d (stepped r m x d).next ∙ omega (arith, machine_position r m x d)

-- what one call feeds the machine: where it then stands, and what it delivers
record Delivers (r : Rate) (m : Machine) (c : Call) : Type 0 where
  position : (fed_all r m (feeds m.position c)).position ≡ takes m.position c
  frames : frames_of (says r m c) ≡ frames_out (heard_from r m (feeds m.position c))
  counts : counts_of (says r m c) ≡ counts_out (heard_from r m (feeds m.position c))

run_delivers : (r : Rate) (m : Machine) (xs : List Float) (d : Bool) (frames : List Float) (gains : List ℕ) (q : Result ⊤ Refusal)
    → first_of (run_grounds m.position xs (length frames) (length gains)) ≡ q → Delivers r m (run xs d frames gains)
unfolding feeds takes says refusal accepted events_of
run_delivers r m xs d frames gains (Ok t) e = record { position = rw e (run_position r xs d m); frames = rw e; counts = rw e }
run_delivers r m xs d frames gains (Err k) e = record { position = rw e (unfold fed_all in refl); frames = rw e (unfold heard_from frames_out in refl); counts = rw e (unfold heard_from in refl) }

move_delivers : (r : Rate) (m : Machine) (c : Controls) (q : Result ⊤ Refusal) → first_of (latch_grounds c) ≡ q → Delivers r m (move c)
unfolding feeds takes says refusal accepted events_of fed_all heard_from delivers frames_out fed latched
move_delivers r m c (Ok t) e = record { position = rw e; frames = rw e; counts = rw e }
move_delivers r m c (Err k) e = record { position = rw e; frames = rw e; counts = rw e }

call_delivers : (r : Rate) (m : Machine) (c : Call) → Delivers r m c
unfolding feeds takes says refusal first_of accepted events_of fed_all heard_from frames_out
call_delivers r m (run xs d frames gains) = run_delivers r m xs d frames gains (first_of (run_grounds m.position xs (length frames) (length gains))) refl
call_delivers r m (move c) = move_delivers r m c (first_of (latch_grounds c)) refl
call_delivers r m ask = record { position = refl; frames = refl; counts = refl }

pub expected_frames : (r : Rate) (cs : List Call) (m : Machine) (n : ℕ) → m.position ≡ n → joined_frames (through (machine_system r) m cs) ≡ frames_out (heard_from r m (joined_events n cs))
unfolding joined_frames through joined_events
expected_frames r [] m n e = unfold heard_from frames_out in refl
expected_frames r (c ∷ cs) m n e =
    let v = call_delivers r m c in
    rw (← e, v.frames, expected_frames r cs (fed_all r m (feeds m.position c)) (takes m.position c) v.position)
    (sym (ap frames_out (heard_append r m (feeds m.position c) (joined_events (takes m.position c) cs)) ∙ frames_append (heard_from r m (feeds m.position c)) (heard_from r (fed_all r m (feeds m.position c)) (joined_events (takes m.position c) cs))))

pub expected_counts : (r : Rate) (cs : List Call) (m : Machine) (n : ℕ) → m.position ≡ n → joined_counts (through (machine_system r) m cs) ≡ counts_out (heard_from r m (joined_events n cs))
unfolding joined_counts through joined_events
expected_counts r [] m n e = unfold heard_from in refl
expected_counts r (c ∷ cs) m n e =
    let v = call_delivers r m c in
    rw (← e, v.counts, expected_counts r cs (fed_all r m (feeds m.position c)) (takes m.position c) v.position)
    (sym (ap counts_out (heard_append r m (feeds m.position c) (joined_events (takes m.position c) cs)) ∙ counts_append (heard_from r m (feeds m.position c)) (heard_from r (fed_all r m (feeds m.position c)) (joined_events (takes m.position c) cs))))
