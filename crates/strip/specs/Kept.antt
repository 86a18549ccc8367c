-- The strip as it is kept: a lane and a bus, each with its own part of each store (crate rate, specs/Stores.antt), and all else of the stores as it was.
use Rattle.std.specs.Prelude.{◌≡◌, ℕ, ◌+◌, Bool, ◌&&◌, List, ◌++◌, leb, length, take, drop, replicate, Float}
use Rattle.casts.specs.Arithmetic.{nought}
use Rattle.ranges.specs.Ranges.{most_points, last_position}
use Rattle.stage.specs.Stage.{Stage, ran, outs, over}
use Rattle.stream.specs.declared.Frame.{Frame}
use Rattle.ramp.specs.declared.Shape.TheVariants.{Linear}
use Rattle.ramp.specs.Ramp.{held, toward}
use Rattle.rate.specs.declared.Rate.{Rate}
use Rattle.rate.specs.declared.PlateRate.{PlateRate}
use Rattle.rate.specs.Stores.{plate_samples, bus_samples, bus_counts, warp_samples, lane_samples, lane_counts}
use Rattle.duck.specs.Cursors.{duck_counts, duck_on, kicks_in, laid, duck_formed}
use Rattle.tape.specs.Tape.{Lists}
use Rattle.tape.specs.Kept.{TapeIn, tape_on, untuned, tape_step_on, fresh_tape, tape_at_rest_on}
use Rattle.plate.specs.Plate.{PlateIn, plate_on, plate_step_on, fresh_on, at_rest_on}
use Rattle.master.specs.declared.Heard.{Heard}
use Rattle.master.specs.Kept.{CeilingIn, ceiling_on, ceiling_step_on, ceiling_fresh}
use Rattle.master.specs.WellFormed.{well_formed}
use Rattle.strip.specs.declared.Setup.{Setup}
use Rattle.strip.specs.declared.Controls.{Controls}
use Rattle.strip.specs.declared.Lane.{Lane}
use Rattle.strip.specs.declared.Bus.{Bus}
use Rattle.strip.specs.declared.Strip.{Strip}
use Rattle.strip.specs.Refusals.{ok_setup, ok_points, ok_ramp}
use Rattle.strip.specs.Machine.{Sent, sent_at, mix_of}

-- the lists as open is lent them
abbrev pub lists_of : List ℕ → List Float → List ℕ → Lists
lists_of positions values kicks = record { positions = positions; values = values; kicks = kicks }

-- ---- a lane on its parts: the warp's line, then the sweep's values; the duck's kicks and marks, then the sweep's positions

pub record LaneIn : Type 0 where
  pub lane : Lane
  pub samples : List Float
  pub counts : List ℕ

abbrev pub lane_on : Lane → List Float → List ℕ → LaneIn
lane_on k samples counts = record { lane = k; samples = samples; counts = counts }

-- its parts have their lengths
pub record LaneLong (r : Rate) (k : LaneIn) : Type 0 where
  pub samples : length k.samples ≡ lane_samples r
  pub counts : length k.counts ≡ lane_counts

abbrev pub tape_in : Rate → LaneIn → TapeIn
tape_in r k = tape_on k.lane.tape (take (warp_samples r.tape) k.samples) (take duck_counts k.counts)

-- the room for the sweep's values and positions
abbrev pub values_room : Rate → LaneIn → List Float
values_room r k = drop (warp_samples r.tape) k.samples

abbrev pub positions_room : LaneIn → List ℕ
positions_room k = drop duck_counts k.counts

-- the kept lists: those in use
abbrev pub lists_in : Rate → LaneIn → Lists
lists_in r k =
    lists_of (take k.lane.points (positions_room k)) (take k.lane.points (values_room r k)) (kicks_in k.lane.tape.duck.count (tape_in r k).counts)

-- a lane put together of its tape and of what lies behind the tape's parts
abbrev pub lane_of : Lane → List Float → List ℕ → TapeIn → LaneIn
lane_of k values positions t =
    lane_on (record { setup = k.setup; points = k.points; daylight = k.daylight; rain = k.rain; tape = t.tape }) (t.ring ++ values) (t.counts ++ positions)

unfoldable pub lane_step_on : Rate → Bool → Stage LaneIn Float Sent
lane_step_on r d n k x =
    let s = k.lane in
    let y = tape_step_on r.tape s.setup.tape s.daylight s.rain (lists_in r k) d n (tape_in r k) x in
    record { next = lane_of s (values_room r k) (positions_room k) y.next; out = sent_at s.setup.send y.out }

-- ---- a bus on its parts: the plate's lines, then the ceiling's places; the ceiling's counts

pub record BusIn : Type 0 where
  pub bus : Bus
  pub samples : List Float
  pub counts : List ℕ

abbrev pub bus_on : Bus → List Float → List ℕ → BusIn
bus_on b samples counts = record { bus = b; samples = samples; counts = counts }

-- its parts have their lengths
pub record BusLong (r : Rate) (b : BusIn) : Type 0 where
  pub samples : length b.samples ≡ bus_samples r
  pub counts : length b.counts ≡ bus_counts r

abbrev pub plate_in : Rate → BusIn → PlateIn
plate_in r b = plate_on b.bus.plate (take (plate_samples r.plate) b.samples)

abbrev pub ceiling_in : Rate → BusIn → CeilingIn
ceiling_in r b = ceiling_on b.bus.ceiling (drop (plate_samples r.plate) b.samples) b.counts

-- a bus put together of its stages
abbrev pub bus_of : PlateIn → CeilingIn → BusIn
bus_of p c = bus_on (record { plate = p.plate; ceiling = c.ceiling }) (p.part ++ c.samples) c.counts

unfoldable pub mixed_step_on : PlateRate → Stage PlateIn Sent Frame
mixed_step_on r n p s = let w = plate_step_on r n p s.sent in record { next = w.next; out = mix_of s.dry w.out }

unfoldable pub bus_step_on : Rate → Stage BusIn Sent Heard
bus_step_on r n b s =
    let f = mixed_step_on r.plate n (plate_in r b) s in
    let h = ceiling_step_on r.ceiling n (ceiling_in r b) f.out in
    record { next = bus_of f.next h.next; out = h.out }

-- ---- a strip with the two stores

pub record State : Type 0 where
  pub strip : Strip
  pub store : List Float
  pub counts : List ℕ

abbrev pub state : Strip → List Float → List ℕ → State
state s store counts = record { strip = s; store = store; counts = counts }

-- the bus's parts, the lane's, and what lies behind them
abbrev pub bus_in : Rate → State → BusIn
bus_in r st = bus_on st.strip.bus (take (bus_samples r) st.store) (take (bus_counts r) st.counts)

abbrev pub lane_in : Rate → State → LaneIn
lane_in r st = lane_on st.strip.lane (take (lane_samples r) (drop (bus_samples r) st.store)) (take lane_counts (drop (bus_counts r) st.counts))

abbrev pub samples_behind : Rate → List Float → List Float
samples_behind r store = drop (bus_samples r + lane_samples r) store

abbrev pub counts_behind : Rate → List ℕ → List ℕ
counts_behind r counts = drop (bus_counts r + lane_counts) counts

-- a strip put together of its lane and bus, at the position n, before what lies behind their parts
abbrev pub state_of : ℕ → LaneIn → BusIn → List Float → List ℕ → State
state_of n k b samples counts = state (record { position = n; lane = k.lane; bus = b.bus }) (b.samples ++ (k.samples ++ samples)) (b.counts ++ (k.counts ++ counts))

-- one sample: the lane, and then the bus
unfoldable pub step_on : Rate → Bool → Stage State Float Heard
step_on r d n st x =
    let y = lane_step_on r d n (lane_in r st) x in
    let h = bus_step_on r n (bus_in r st) y.out in
    record { next = state_of (n + 1) y.next h.next (samples_behind r st.store) (counts_behind r st.counts); out = h.out }

-- a run's samples
abbrev pub ran_on : Rate → Bool → State → List Float → State
ran_on r d st xs = ran (step_on r d) st.strip.position st xs

abbrev pub heard_on : Rate → Bool → State → List Float → List Heard
heard_on r d st xs = outs (step_on r d) st.strip.position st xs

-- ---- refusal 4

-- "4. .. a ramp's start or length above 2^32, a cursor beyond its list, .. or kept setup and lists that 2 or 3 would decline"
unfoldable pub lane_formed : Rate → LaneIn → Bool
lane_formed r k =
    ok_ramp k.lane.daylight
    && (ok_ramp k.lane.rain
    && (ok_setup k.lane.setup
    && (leb k.lane.points most_points
    && (ok_points (lists_in r k).positions (lists_in r k).values && duck_formed (duck_on k.lane.tape.duck (tape_in r k).counts)))))

-- "4. .. a cursor beyond its list, more than 883 queued needs, a need or the released gain outside 0 to 1 or NaN, a step above 2^40, a gain count that is not the total of its 221 steps"
unfoldable pub bus_formed : Rate → BusIn → Bool
bus_formed r b = well_formed r.ceiling (ceiling_in r b)

-- "4. The strip is malformed: position .. above 2^32, .. (run, latch, rest)."
unfoldable pub formed : Rate → State → Bool
formed r st = leb st.strip.position last_position && (lane_formed r (lane_in r st) && bus_formed r (bus_in r st))

-- ---- what open leaves: the lines silent, the lists laid at their places, the ceiling fresh

unfoldable pub opened_lane : Rate → Setup → Lists → List Float → List ℕ → LaneIn
opened_lane r s l samples counts =
    lane_on
    (record {
      setup = s;
      points = length l.positions;
      daylight = held s.daylight Linear;
      rain = held s.rain Linear;
      tape = fresh_tape r.tape (length l.kicks);
    })
    (replicate (warp_samples r.tape) nought ++ over l.values (drop (warp_samples r.tape) samples))
    ((laid l.kicks (take duck_counts counts)).part ++ over l.positions (drop duck_counts counts))

unfoldable pub opened_bus : Rate → List Float → List ℕ → BusIn
opened_bus r samples counts =
    bus_of
    (plate_on (fresh_on r.plate) (replicate (plate_samples r.plate) nought))
    (ceiling_fresh r.ceiling (drop (plate_samples r.plate) samples) counts)

unfoldable pub opened_state : Rate → Setup → Lists → List Float → List ℕ → State
opened_state r s l store counts =
    state_of 0
    (opened_lane r s l (take (lane_samples r) (drop (bus_samples r) store)) (take lane_counts (drop (bus_counts r) counts)))
    (opened_bus r (take (bus_samples r) store) (take (bus_counts r) counts))
    (samples_behind r store)
    (counts_behind r counts)

-- ---- latch: the ramps move, and the lane's tuning, which follows the daylight, is given up

unfoldable pub lane_latched_on : ℕ → Lane → Controls → Lane
lane_latched_on n k c =
    record {
      setup = k.setup;
      points = k.points;
      daylight = toward k.daylight n c.daylight c.grading;
      rain = toward k.rain n c.rain c.darkening;
      tape = untuned k.tape;
    }

unfoldable pub latched_strip : Strip → Controls → Strip
latched_strip s c = record { position = s.position; lane = lane_latched_on s.position s.lane c; bus = s.bus }

-- ---- rest

-- of a lane and its samples
unfoldable pub lane_resting_on : Rate → Lane → List Float → Bool
lane_resting_on r k samples = tape_at_rest_on k.tape.tone k.tape.equalizer (take (warp_samples r.tape) samples)

-- of a bus and its samples
unfoldable pub bus_resting_on : Rate → Bus → List Float → Bool
bus_resting_on r b samples = at_rest_on (plate_on b.plate (take (plate_samples r.plate) samples))

unfoldable pub resting_on : Rate → State → Bool
resting_on r st = lane_resting_on r st.strip.lane (lane_in r st).samples && bus_resting_on r st.strip.bus (bus_in r st).samples
