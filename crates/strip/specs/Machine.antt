-- The one-sample machine (document 01, 'One sample through the lane', 'Plate', 'Ceiling'): "The one-sample machine has no calls, pieces, queues or cached tuning."
-- It is a lane and a bus: the lane gives what is heard dry and what is sent, the bus takes both.
use Rattle.std.specs.Prelude.{ℕ, ◌+◌, Bool, ◌&&◌, List, [], ◌∷◌, ◌++◌, Float}
use Rattle.casts.specs.Arithmetic.{◌⊕◌, ◌⊗◌}
use Rattle.stage.specs.Stage.{Step, Stage}
use Rattle.stream.specs.declared.Frame.{Frame}
use Rattle.ramp.specs.declared.Ramp.{Ramp}
use Rattle.ramp.specs.declared.Shape.TheVariants.{Linear}
use Rattle.ramp.specs.Ramp.{held, toward}
use Rattle.rate.specs.declared.Rate.{Rate}
use Rattle.rate.specs.declared.PlateRate.{PlateRate}
use Rattle.tape.specs.Tape.{Lists, TapeMachine, tape_step, fresh_tape_machine, tape_at_rest}
use Rattle.plate.specs.Machine.{PlateMachine, plate_step, fresh_plate, at_rest}
use Rattle.master.specs.declared.Heard.{Heard}
use Rattle.master.specs.Ceiling.{CeilingMachine, ceiling_step, fresh_machine}
use Rattle.strip.specs.declared.Setup.{Setup}
use Rattle.strip.specs.declared.Controls.{Controls}

-- ".. the two ramps, each filter's history, each line's last R samples .., the marked kicks ..": the lane's, with what it was opened with
pub record LaneMachine : Type 0 where
  pub setup : Setup
  pub lists : Lists
  pub daylight : Ramp
  pub rain : Ramp
  pub tape : TapeMachine

-- ".. each filter's history, each line's last R samples .., the past needs and steps, the released gain, and the last 220 frames": the bus's
pub record BusMachine : Type 0 where
  pub plate : PlateMachine
  pub ceiling : CeilingMachine

-- "Its state is the position n, .."
pub record Machine : Type 0 where
  pub position : ℕ
  pub lane : LaneMachine
  pub bus : BusMachine

-- "Fresh, .. the ramps stand at the setup's values, every filter's past is zero and no kick is marked."
unfoldable pub fresh_lane : Rate → Setup → Lists → LaneMachine
fresh_lane r s l =
    record {
      setup = s;
      lists = l;
      daylight = held s.daylight Linear;
      rain = held s.rain Linear;
      tape = fresh_tape_machine r.tape l.kicks;
    }

unfoldable pub fresh_bus : Rate → BusMachine
fresh_bus r = record { plate = fresh_plate r.plate; ceiling = fresh_machine }

-- "Fresh, n is 0, .."
unfoldable pub fresh : Rate → Setup → Lists → Machine
fresh r s l = record { position = 0; lane = fresh_lane r s l; bus = fresh_bus r }

-- ---- one sample

-- what a lane gives the bus: what is heard dry, and what goes to the plate
pub record Sent : Type 0 where
  pub dry : Float
  pub sent : Float

-- "The result y goes to the plate as y·send."
abbrev pub sent_at : Float → Float → Sent
sent_at send y = record { dry = y; sent = y ⊗ send }

-- "For sample x with drums flag d": the lane
unfoldable pub lane_step : Rate → Bool → Stage LaneMachine Float Sent
lane_step r d n l x =
    let y = tape_step r.tape l.setup.tape l.daylight l.rain l.lists d n l.tape x in
    record {
      next = record { setup = l.setup; lists = l.lists; daylight = l.daylight; rain = l.rain; tape = y.next };
      out = sent_at l.setup.send y.out;
    }

-- "The frame is (y + l, y + r)."
abbrev pub mix_of : Float → Frame → Frame
mix_of y f = record { left = y ⊕ f.left; right = y ⊕ f.right }

unfoldable pub mixed_step : PlateRate → Stage PlateMachine Sent Frame
mixed_step r n p s = let w = plate_step r n p s.sent in record { next = w.next; out = mix_of s.dry w.out }

-- the plate, and the ceiling on the mixed frame
unfoldable pub bus_step : Rate → Stage BusMachine Sent Heard
bus_step r n b s =
    let f = mixed_step r.plate n b.plate s in
    let h = ceiling_step r.ceiling n b.ceiling f.out in
    record { next = record { plate = f.next; ceiling = h.next }; out = h.out }

-- the lane, and then the bus
unfoldable pub stepped : Rate → Machine → Float → Bool → Step Machine Heard
stepped r m x d =
    let n = m.position in
    let y = lane_step r d n m.lane x in
    let h = bus_step r n m.bus y.out in
    record { next = record { position = n + 1; lane = y.next; bus = h.next }; out = h.out }

-- ---- latch and rest

-- "Latch at n moves each ramp by `Ramp::toward`: an equal target changes nothing, otherwise it goes from the value at n to the target over the given length."
unfoldable pub lane_latched : ℕ → LaneMachine → Controls → LaneMachine
lane_latched n l c =
    record {
      setup = l.setup;
      lists = l.lists;
      daylight = toward l.daylight n c.daylight c.grading;
      rain = toward l.rain n c.rain c.darkening;
      tape = l.tape;
    }

unfoldable pub latched : Machine → Controls → Machine
latched m c = record { position = m.position; lane = lane_latched m.position m.lane c; bus = m.bus }

-- "The machine's rest answer: every lane filter's past values, the last R samples of the warp .. hold only zeros (−0 counts)."
unfoldable pub lane_resting : LaneMachine → Bool
lane_resting l = tape_at_rest l.tape

-- ".. the last R samples .. of every plate line, and the plate's filters hold only zeros (−0 counts)."
unfoldable pub bus_resting : BusMachine → Bool
bus_resting b = at_rest b.plate

unfoldable pub resting : Machine → Bool
resting m = lane_resting m.lane && bus_resting m.bus

-- ---- what the machine is fed: "An accepted run feeds the machine that run's samples in order, each with the run's drums flag. An accepted latch acts at the n then reached."

pub data Event : Type 0 where
  sample : Float → Bool → Event
  latch : Controls → Event

unfoldable pub fed : Rate → Machine → Event → Machine
fed r m (sample x d) = (stepped r m x d).next
fed r m (latch c) = latched m c

unfoldable pub fed_all : Rate → Machine → List Event → Machine
fed_all r m [] = m
fed_all r m (e ∷ es) = fed_all r (fed r m e) es

-- what it delivers for them
unfoldable pub delivers : Rate → Machine → Event → List Heard
delivers r m (sample x d) = (stepped r m x d).out ∷ []
delivers r m (latch c) = []

unfoldable pub heard_from : Rate → Machine → List Event → List Heard
heard_from r m [] = []
heard_from r m (e ∷ es) = delivers r m e ++ heard_from r (fed r m e) es

-- and what its lane gives the bus for them
unfoldable pub sends : Rate → Machine → Event → List Sent
sends r m (sample x d) = (lane_step r d m.position m.lane x).out ∷ []
sends r m (latch c) = []

unfoldable pub sent_from : Rate → Machine → List Event → List Sent
sent_from r m [] = []
sent_from r m (e ∷ es) = sends r m e ++ sent_from r (fed r m e) es
