-- How a machine and a strip with its stores stand to each other, and that a sample, a latch and open keep it. Assumes nothing.
use mathlib.Core.Path.{◌≡◌, refl, sym, ap, subst, subst⁻¹, ◌∙◌}
use mathlib.Core.Bool.{Bool, true}
use Prim.Native.Nat.{ℕ, ◌+◌, ◌<◌, ◌≤◌}
use native.Mathlib.Omega.{arith}
use mathlib.Core.List.{List, [], ◌∷◌, map}
use lib.Dec.{leb}
use lib.ListN.{length}
use lib.Ieee.{Float}
use borrow.Author.Tests.{le-leb}
use Rattle.ranges.specs.Ranges.{last_position}
use Rattle.stage.specs.Stage.{Step, ran, outs, both}
use Rattle.stage.proofs.Laws.{Relates, Both, relates_both}
use Rattle.rate.specs.declared.Rate.{Rate}
use Rattle.rate.specs.Rate.{RateUsable, Sized}
use Rattle.tape.specs.Tape.{Lists}
use Rattle.master.specs.declared.Heard.{Heard}
use Rattle.strip.specs.declared.Setup.{Setup}
use Rattle.strip.specs.declared.Controls.{Controls}
use Rattle.strip.specs.declared.Refusal.{Refusal}
use Rattle.strip.specs.Refusals.{long_enough}
use Rattle.strip.specs.Machine.{LaneMachine, BusMachine, Machine, lane_step, bus_step, sample, fresh, stepped, lane_latched, latched, fed, fed_all, delivers, heard_from, resting}
use Rattle.strip.specs.Kept.{LaneIn, lane_on, lane_step_on, BusIn, bus_step_on, State, state, bus_in, lane_in, samples_behind, counts_behind, state_of, step_on, ran_on, heard_on, formed, opened_state, lane_latched_on, latched_strip, resting_on}
use Rattle.strip.specs.Calls.{first_of, first}
use Rattle.strip.proofs.Refusals.{Opens}
use Rattle.strip.proofs.LaneRelates.{LaneStands, lane_relates, lane_formed_lem, lane_latches, lane_rests, lane_opens}
use Rattle.strip.proofs.BusRelates.{BusStands, bus_relates, bus_formed_lem, bus_rests, bus_opens}
use Rattle.strip.proofs.Parts.{Long, bus_of_lem, lane_of, parts_long, sized_again}

pub record Stands (r : Rate) (m : Machine) (st : State) : Type 0 where
  pub position : m.position ≡ st.strip.position
  pub lane : LaneStands r m.position m.lane (lane_in r st)
  pub bus : BusStands r m.position m.bus (bus_in r st)
  -- what refusals 1 and 4 ask
  pub sized : Sized r st.store st.counts
  pub placed : m.position ≤ last_position

-- a strip that is put together of a lane and a bus which stand to the machine's
module _ (r : Rate) (u : RateUsable r) (st : State) (z : Sized r st.store st.counts) (m : Machine) (k : LaneIn) (b : BusIn)
    (lane : LaneStands r m.position m.lane k) (bus : BusStands r m.position m.bus b) (placed : m.position ≤ last_position) where
  abbrev together : State
  together = state_of m.position k b (samples_behind r st.store) (counts_behind r st.counts)

  long : Long r k b
  long = record { lane = lane.long; bus = bus.long }

  pub stands_of : Stands r m together
  stands_of =
      record {
        position = refl;
        lane = subst⁻¹ (LaneStands r m.position m.lane) (lane_of r m.position k b (samples_behind r st.store) (counts_behind r st.counts) long) lane;
        bus = subst⁻¹ (BusStands r m.position m.bus) (bus_of_lem r m.position k b (samples_behind r st.store) (counts_behind r st.counts) long) bus;
        sized = sized_again r u st z m.position k b long;
        placed = placed;
      }

-- ---- refusals 1 and 4 decline no call

is_formed : (r : Rate) (m : Machine) (st : State) → Stands r m st → formed r st ≡ true
unfolding formed
is_formed r m st g =
    let p : leb st.strip.position last_position ≡ true = le-leb _ _ (subst (λ (k : ℕ). k ≤ last_position) g.position g.placed) in
    rw (p, lane_formed_lem r m.position m.lane (lane_in r st) g.lane) (bus_formed_lem r m.position m.bus (bus_in r st) g.bus)

pub none_first : (r : Rate) (m : Machine) (st : State) → Stands r m st → (own : List (Bool × Refusal)) → first r st own ≡ first_of own
unfolding first first_of long_enough
none_first r m st g own = rw (le-leb _ _ g.sized.long, le-leb _ _ g.sized.wide, is_formed r m st g)

-- ---- one sample

module _ (r : Rate) (u : RateUsable r) (m : Machine) (st : State) (g : Stands r m st) (x : Float) (d : Bool) where
  abbrev n : ℕ
  n = m.position

  abbrev machines : LaneMachine × BusMachine
  machines = (m.lane, m.bus)

  abbrev keeps : LaneIn × BusIn
  keeps = (lane_in r st, bus_in r st)

  abbrev kept : Step (LaneIn × BusIn) Heard
  kept = both (lane_step_on r d) (bus_step_on r) n keeps x

  related : Relates (Both (LaneStands r) (BusStands r)) (both (lane_step r d) (bus_step r)) (both (lane_step_on r d) (bus_step_on r))
  related = relates_both _ _ _ _ _ _ (lane_relates r u d) (bus_relates r u)

  step_is : step_on r d st.strip.position st x
      ≡ record { next = state_of (n + 1) kept.next.0 kept.next.1 (samples_behind r st.store) (counts_behind r st.counts); out = kept.out }
  unfolding step_on
  step_is = rw (← g.position)

  pub step_out : (stepped r m x d).out ≡ (step_on r d st.strip.position st x).out
  unfolding stepped
  step_out = related.same n machines keeps x (g.lane, g.bus) ∙ sym (ap (λ (o : Step State Heard). o.out) step_is)

  pub step_stands : n < last_position → Stands r (stepped r m x d).next (step_on r d st.strip.position st x).next
  unfolding stepped
  step_stands low =
      let h = related.keeps n machines keeps x (g.lane, g.bus) in
      subst⁻¹ (λ (o : Step State Heard). Stands r (stepped r m x d).next o.next) step_is
      (stands_of r u st g.sized (stepped r m x d).next kept.next.0 kept.next.1 h.0 h.1 (omega arith))

-- ---- a run's samples

pub step_position : (r : Rate) (d : Bool) (n : ℕ) (st : State) (x : Float) → (step_on r d n st x).next.strip.position ≡ n + 1
unfolding step_on
step_position r d n st x = refl

pub machine_position : (r : Rate) (m : Machine) (x : Float) (d : Bool) → (stepped r m x d).next.position ≡ m.position + 1
unfolding stepped
machine_position r m x d = refl

module _ (r : Rate) (u : RateUsable r) (d : Bool) where
  pub run_stands : (xs : List Float) (m : Machine) (st : State) → Stands r m st → m.position + length xs ≤ last_position → Stands r (fed_all r m (map (λ x. sample x d) xs)) (ran_on r d st xs)
  unfolding fed_all fed ran
  run_stands [] m st g h = g
  run_stands (x ∷ xs) m st g h =
      let p = machine_position r m x d in
      let e : (step_on r d st.strip.position st x).next.strip.position ≡ st.strip.position + 1 = step_position r d st.strip.position st x in
      rw e at (run_stands xs (stepped r m x d).next (step_on r d st.strip.position st x).next (step_stands r u m st g x d (omega arith)) (omega arith))

  pub run_heard : (xs : List Float) (m : Machine) (st : State) → Stands r m st → m.position + length xs ≤ last_position → heard_from r m (map (λ x. sample x d) xs) ≡ heard_on r d st xs
  unfolding heard_from delivers fed outs
  run_heard [] m st g h = refl
  run_heard (x ∷ xs) m st g h =
      let p = machine_position r m x d in
      let e : (step_on r d st.strip.position st x).next.strip.position ≡ st.strip.position + 1 = step_position r d st.strip.position st x in
      rw (step_out r u m st g x d)
      (ap (λ (l : List Heard). (step_on r d st.strip.position st x).out ∷ l)
      (rw e at (run_heard xs (stepped r m x d).next (step_on r d st.strip.position st x).next (step_stands r u m st g x d (omega arith)) (omega arith))))

-- ---- a latch

pub latch_stands : (r : Rate) (m : Machine) (st : State) → Stands r m st → (c : Controls) → c.grading ≤ last_position → c.darkening ≤ last_position
    → Stands r (latched m c) (state (latched_strip st.strip c) st.store st.counts)
unfolding latched latched_strip
latch_stands r m st g c a b =
    record {
      position = g.position;
      lane =
          subst (λ (n : ℕ). LaneStands r m.position (lane_latched m.position m.lane c) (lane_on (lane_latched_on n st.strip.lane c) (lane_in r st).samples (lane_in r st).counts)) g.position
          (lane_latches r m.position m.lane (lane_in r st) g.lane g.placed c a b);
      bus = g.bus;
      sized = g.sized;
      placed = g.placed;
    }

-- ---- the rest answer

pub same_rest : (r : Rate) → RateUsable r → (m : Machine) (st : State) → Stands r m st → resting m ≡ resting_on r st
unfolding resting resting_on
same_rest r u m st g = rw (lane_rests r u m.position m.lane (lane_in r st) g.lane, bus_rests r u m.position m.bus (bus_in r st) g.bus)

-- ---- what open leaves

pub open_stands : (r : Rate) → RateUsable r → (s : Setup) (l : Lists) (store : List Float) (counts : List ℕ) → Opens r s l store counts → Stands r (fresh r s l) (opened_state r s l store counts)
unfolding fresh opened_state
open_stands r u s l store counts o =
    let before : State = state (opened_state r s l store counts).strip store counts in
    let p = parts_long r u before o.sized in
    stands_of r u before o.sized (fresh r s l) _ _
    (lane_opens r u s l (lane_in r before).samples (lane_in r before).counts p.lane.samples p.lane.counts o.ranged o.pointed o.few o.paired o.kicks o.risen)
    (bus_opens r u (bus_in r before).samples (bus_in r before).counts p.bus.samples p.bus.counts)
    (omega arith)
