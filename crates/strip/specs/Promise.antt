-- Demand 3, "a single claim about the whole list, not one for each call": a list of calls, what it is answered, what the machine says to it, and the claim.
-- The claim is `Demand3`, which takes no argument; `demand3` in proofs/Demand3.antt is a term of it.
use Rattle.std.specs.Prelude.{ℕ, ◌+◌, ◌-◌, ◌*◌, ◌<◌, ◌≤◌, suc, ◌≡◌, Bool, List, [], ◌∷◌, ◌++◌, map, length, get_or, Float, Result, Ok, Err, ⊤}
use Rattle.casts.specs.Step.{step_of}
use Rattle.stage.specs.System.{System, through}
use Rattle.stream.specs.declared.Frame.{Frame}
use Rattle.rate.specs.declared.Rate.{Rate}
use Rattle.rate.specs.Rate.{rate_of}
use Rattle.tape.specs.Tape.{Lists}
use Rattle.master.specs.Ceiling.{need_of, silence}
use Rattle.master.specs.Kept.{frames_out, counts_out}
use Rattle.strip.specs.declared.Setup.{Setup}
use Rattle.strip.specs.declared.Controls.{Controls}
use Rattle.strip.specs.declared.Strip.{Strip}
use Rattle.strip.specs.declared.Refusal.{Refusal}
use Rattle.strip.specs.declared.Declined.{Declined}
use Rattle.strip.specs.Refusals.{number_of}
use Rattle.strip.specs.Machine.{Machine, Event, sample, latch, lane_step, mixed_step, fresh, fed, fed_all, heard_from, resting}
use Rattle.strip.specs.Kept.{State, state}
use Rattle.strip.specs.Calls.{first_of, unless, run_grounds, latch_grounds, rest_grounds, open_call, run_call, latch_call, rest_call}

-- ---- a list of calls

pub data Call : Type 0 where
  -- samples, drums, and the two outputs as they are lent
  run : List Float → Bool → List Float → List ℕ → Call
  move : Controls → Call
  ask : Call

-- "Joined frames and joined gain counts are those that the accepted runs wrote, in order, each taken as its run returned."
pub data Answer : Type 0 where
  ran : List Float → List ℕ → Answer
  moved : Answer
  rests : Bool → Answer
  declined : ℕ → Answer

-- "In a list of calls each is lent the strip and stores just as the call before left them": a declined call hands back the strip that came
abbrev pub strip_of : Result Strip Declined → Strip
strip_of (Ok s) = s
strip_of (Err d) = d.strip

-- "Rest gives the rest answer and changes nothing": the strip s that it was lent, or the one that it hands back
abbrev pub rest_strip : Strip → Result Bool Declined → Strip
rest_strip s (Ok b) = s
rest_strip s (Err d) = d.strip

abbrev pub run_answer : Result Strip Declined → List Float → List ℕ → Answer
run_answer (Ok s) frames gains = ran frames gains
run_answer (Err d) frames gains = declined (number_of d.refusal)

abbrev pub move_answer : Result Strip Declined → Answer
move_answer (Ok s) = moved
move_answer (Err d) = declined (number_of d.refusal)

abbrev pub rest_answer : Result Bool Declined → Answer
rest_answer (Ok b) = rests b
rest_answer (Err d) = declined (number_of d.refusal)

unfoldable pub answer_to : Rate → State → Call → Answer
answer_to r st (run xs d frames gains) = let o = run_call r st xs d frames gains in run_answer o.answer o.frames o.gains
answer_to r st (move c) = move_answer (latch_call r st c)
answer_to r st ask = rest_answer (rest_call r st)

unfoldable pub after : Rate → State → Call → State
after r st (run xs d frames gains) = let o = run_call r st xs d frames gains in state (strip_of o.answer) o.store o.counts
after r st (move c) = state (strip_of (latch_call r st c)) st.store st.counts
after r st ask = state (rest_strip st.strip (rest_call r st)) st.store st.counts

-- the part, which answers calls on a strip and its stores
abbrev pub part_system : Rate → System State Call Answer
part_system r = record { answer = answer_to r; next = after r }

-- ---- the same list, put to the machine

-- "its number is the one that the refusals give, with n as the position, and 4 declines no call of such a list"
unfoldable pub refusal : ℕ → Call → Result ⊤ Refusal
refusal n (run xs d frames gains) = first_of (run_grounds n xs (length frames) (length gains))
refusal n (move c) = first_of (latch_grounds c)
refusal n ask = first_of rest_grounds

unfoldable pub events_of : Call → List Event
events_of (run xs d frames gains) = map (λ x. sample x d) xs
events_of (move c) = latch c ∷ []
events_of ask = []

-- "A declined call changes nothing either"
unfoldable pub feeds : ℕ → Call → List Event
feeds n c = unless (refusal n c) (events_of c) (λ k. [])

unfoldable pub accepted : Rate → Machine → Call → Answer
accepted r m (run xs d frames gains) = let h = heard_from r m (map (λ x. sample x d) xs) in ran (frames_out h) (counts_out h)
accepted r m (move c) = moved
accepted r m ask = rests (resting m)

unfoldable pub says : Rate → Machine → Call → Answer
says r m c = unless (refusal m.position c) (accepted r m c) (λ k. declined (number_of k))

-- the machine, which answers the same calls
abbrev pub machine_system : Rate → System Machine Call Answer
machine_system r = record { answer = says r; next = λ m c. fed_all r m (feeds m.position c) }

-- ---- joined frames and counts

abbrev pub frames_of : Answer → List Float
frames_of (ran frames gains) = frames
frames_of moved = []
frames_of (rests b) = []
frames_of (declined k) = []

abbrev pub counts_of : Answer → List ℕ
counts_of (ran frames gains) = gains
counts_of moved = []
counts_of (rests b) = []
counts_of (declined k) = []

unfoldable pub joined_frames : List Answer → List Float
joined_frames [] = []
joined_frames (a ∷ l) = frames_of a ++ joined_frames l

unfoldable pub joined_counts : List Answer → List ℕ
joined_counts [] = []
joined_counts (a ∷ l) = counts_of a ++ joined_counts l

-- the joined samples, with each accepted latch at its position: what the calls feed the machine, which the positions alone pick out
unfoldable pub takes : ℕ → Call → ℕ
takes n (run xs d frames gains) = unless (refusal n (run xs d frames gains)) (n + length xs) (λ k. n)
takes n (move c) = n
takes n ask = n

unfoldable pub joined_events : ℕ → List Call → List Event
joined_events n [] = []
joined_events n (c ∷ cs) = feeds n c ++ joined_events (takes n c) cs

-- ---- the frames that the ceiling is given, whose needs bound the gain

-- "The frame is (y + l, y + r)."
unfoldable pub mixes : Rate → Machine → Event → List Frame
mixes r m (sample x d) = (mixed_step r.plate m.position m.bus.plate (lane_step r d m.position m.lane x).out).out ∷ []
mixes r m (latch c) = []

unfoldable pub mixed_from : Rate → Machine → List Event → List Frame
mixed_from r m [] = []
mixed_from r m (e ∷ es) = mixes r m e ++ mixed_from r (fed r m e) es

-- "a delivered frame's need is that of the frame 220 back which it comes from": of the frame delivered i-th, counted from 0, where i is 220 or more
unfoldable pub delivered_need : Rate → List Frame → ℕ → Float
delivered_need r frames i = need_of r.ceiling (get_or frames (i - r.ceiling.ahead) silence)

-- ---- the claim

-- What is claimed of a list of calls and of the answers to it, the strip having been opened under the setup s and the lists l. Floats are equal as values, all NaNs being one.
pub record Joined (r : Rate) (s : Setup) (l : Lists) (cs : List Call) (answers : List Answer) : Type 0 where
  -- every answer is the machine's: frames, gain counts, rest answers, and refusal numbers "with n as the position"
  pub machine : answers ≡ through (machine_system r) (fresh r s l) cs
  -- "Joined frames and joined gain counts .. are compared bit for bit with the machine's": they are what the fresh machine delivers for the joined samples, with each accepted latch at its
  -- position, however they are divided into calls
  pub frames : joined_frames answers ≡ frames_out (heard_from r (fresh r s l) (joined_events 0 cs))
  pub counts : joined_counts answers ≡ counts_out (heard_from r (fresh r s l) (joined_events 0 cs))
  -- the gain bound: after the first 220, each joined count is at most 221 times the whole part of 2^40 · need of the frame delivered
  pub bound : (i : ℕ) → i < length (joined_counts answers) → r.ceiling.ahead ≤ i
      → get_or (joined_counts answers) i 0 ≤ suc r.ceiling.ahead * step_of (delivered_need r (mixed_from r (fresh r s l) (joined_events 0 cs)) i)

-- P of every list of calls and the answers to it: "A list of calls starts with the strip and stores just as open left them, and with the machine fresh under the same setup, points and kicks."
abbrev pub EveryList : Rate → (Setup → Lists → List Call → List Answer → Type 0) → Type 0
EveryList r P =
    (s : Setup) (l : Lists) (store : List Float) (counts : List ℕ) (t : Strip) → (open_call r s l store counts).answer ≡ Ok t
    → (cs : List Call) → P s l cs (through (part_system r) (state t (open_call r s l store counts).store (open_call r s l store counts).counts) cs)

unfoldable pub JoinedAt : Rate → Type 0
JoinedAt r = EveryList r (Joined r)

-- DEMAND 3, at the rate that is sold: for every setup, lists and stores from which open gives a strip, and for every list of calls
pub record Demand3 : Type 0 where
  pub joined : JoinedAt (rate_of 44100)
