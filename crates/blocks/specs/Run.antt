-- A run's whole effect, and what a lane and a bus must have for it: less than refusal 4 asks.
use Rattle.std.specs.Prelude.{◌≡◌, ℕ, ◌+◌, ◌*◌, ◌<◌, ◌≤◌, Bool, List, [], ◌∷◌, T, Float}
use Rattle.casts.specs.Arithmetic.{◌⊕◌}
use Rattle.ranges.specs.Ranges.{most_points, last_position}
use Rattle.rate.specs.declared.Rate.{Rate}
use Rattle.rate.specs.Rate.{Sized}
use Rattle.duck.specs.Cursors.{duck_on, Within}
use Rattle.tape.specs.declared.Tape.{Tape}
use Rattle.tape.specs.Kept.{tuned_at}
use Rattle.master.specs.Kept.{frames_out, counts_out}
use Rattle.master.specs.WellFormed.{well_formed}
use Rattle.strip.specs.declared.Strip.{Strip}
use Rattle.strip.specs.Machine.{Sent}
use Rattle.strip.specs.Kept.{LaneIn, LaneLong, tape_in, lists_in, BusIn, BusLong, ceiling_in, State, state, bus_in, lane_in, ran_on, heard_on}

-- what is heard dry and what is sent, sample by sample
unfoldable pub sents_in : List Float → List Float → List Sent
sents_in [] ss = []
sents_in (y ∷ ys) [] = []
sents_in (y ∷ ys) (s ∷ ss) = record { dry = y; sent = s } ∷ sents_in ys ss

-- two lists added element by element
unfoldable pub added : List Float → List Float → List Float
added [] ss = []
added (y ∷ ys) [] = []
added (y ∷ ys) (s ∷ ss) = (y ⊕ s) ∷ added ys ss

-- ---- what can run

pub record LaneRuns (r : Rate) (k : LaneIn) : Type 0 where
  pub long : LaneLong r k
  pub few : k.lane.points ≤ most_points
  pub ducks : Within (duck_on k.lane.tape.duck (tape_in r k).counts)

pub record BusRuns (r : Rate) (b : BusIn) : Type 0 where
  pub long : BusLong r b
  pub well : T (well_formed r.ceiling (ceiling_in r b))

pub record Runs (r : Rate) (st : State) : Type 0 where
  pub sized : Sized r st.store st.counts
  pub lane : LaneRuns r (lane_in r st)
  pub bus : BusRuns r (bus_in r st)

-- ---- a block

-- the lane's tape tuned for the sample n
abbrev pub tuned_of : Rate → ℕ → LaneIn → Tape
tuned_of r n k = tuned_at r.tape k.lane.setup.tape.tone k.lane.daylight (lists_in r k).positions (lists_in r k).values n k.lane.tape

-- as many samples as have the tuning of the first, and no further than 2^32
pub record Piecewise (until n samples : ℕ) : Type 0 where
  pub some : 0 < samples
  pub few : n + samples ≤ until
  pub before : n + samples ≤ last_position

-- room for the two sides, the frames and the gain counts
pub record Outputs (samples a b f g : ℕ) : Type 0 where
  pub left : a ≡ samples
  pub right : b ≡ samples
  pub frames : f ≡ 2 * samples
  pub gains : g ≡ samples

-- ---- a run's whole effect

pub record RanAll : Type 0 where
  pub end : State
  pub frames : List Float
  pub gains : List ℕ

abbrev pub ran_all : Strip → List Float → List ℕ → List Float → List ℕ → RanAll
ran_all s store counts frames gains = record { end = state s store counts; frames = frames; gains = gains }

abbrev pub all_ran : Rate → Bool → State → List Float → RanAll
all_ran r d st xs = record { end = ran_on r d st xs; frames = frames_out (heard_on r d st xs); gains = counts_out (heard_on r d st xs) }
