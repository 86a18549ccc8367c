-- What run owes where it declines, where it does not, and what its blocks may then rely on. Assumes nothing.
use mathlib.Core.Path.{◌≡◌, ap, subst⁻¹, ◌∙◌}
use mathlib.Core.Bool.{Bool, true, and-eq-true_iff}
use Prim.Native.Nat.{ℕ}
use native.Mathlib.Omega.{arith}
use mathlib.Core.List.{List, []}
use lib.Dec.{T, leb}
use lib.ListN.{length}
use lib.Ieee.{Float}
use borrow.Author.Tests.{leb-true}
use Rattle.ranges.specs.Ranges.{most_points, last_position}
use Rattle.rate.specs.declared.Rate.{Rate}
use Rattle.rate.specs.Rate.{RateUsable}
use Rattle.duck.specs.Cursors.{duck_on, duck_formed}
use Rattle.duck.proofs.Related.{formed_within}
use Rattle.strip.specs.declared.Strip.{Strip}
use Rattle.std.specs.Prelude.{Ok, Err}
use Rattle.strip.specs.declared.Refusal.{Refusal}
use Rattle.strip.specs.Refusals.{ok_setup, ok_points, ok_ramp}
use Rattle.strip.specs.Kept.{LaneIn, tape_in, lists_in, BusIn, State, state, bus_in, lane_in, lane_formed, bus_formed, formed, LaneLong, BusLong}
use Rattle.strip.specs.Calls.{first, run_grounds, declined_with, run_call}
use Rattle.strip.proofs.LaneRelates.{tape_long}
use Rattle.strip.proofs.Parts.{parts_long}
use Rattle.refusals.proofs.Numbers.{fine}
use Rattle.blocks.specs.Run.{LaneRuns, BusRuns, Runs, RanAll, ran_all, all_ran}
use Rattle.part.specs.Pieces.{went}

-- ---- a lane and a bus that 4 does not decline can run

lane_runs : (r : Rate) (k : LaneIn) → LaneLong r k → lane_formed r k ≡ true → LaneRuns r k
unfolding lane_formed
lane_runs r k l e =
    let a = (and-eq-true_iff (ok_ramp k.lane.daylight) _).0 e in
    let b = (and-eq-true_iff (ok_ramp k.lane.rain) _).0 a.1 in
    let c = (and-eq-true_iff (ok_setup k.lane.setup) _).0 b.1 in
    let d = (and-eq-true_iff (leb k.lane.points most_points) _).0 c.1 in
    let f = (and-eq-true_iff (ok_points (lists_in r k).positions (lists_in r k).values) (duck_formed (duck_on k.lane.tape.duck (tape_in r k).counts))).0 d.1 in
    record {
      long = l;
      few = leb-true _ _ d.0;
      ducks = formed_within (duck_on k.lane.tape.duck (tape_in r k).counts) (omega (arith, (tape_long r k l).counts)) f.1;
    }

bus_runs : (r : Rate) (b : BusIn) → BusLong r b → bus_formed r b ≡ true → BusRuns r b
unfolding bus_formed
bus_runs r b l e = record { long = l; well = subst⁻¹ T e tt }

module _ (r : Rate) (st : State) where
  pub runs : RateUsable r → first r st [] ≡ Ok tt → Runs r st
  unfolding formed
  runs u e =
      let f = fine r st e in
      let l = parts_long r u st f.sized in
      let a = (and-eq-true_iff (leb st.strip.position last_position) _).0 f.well in
      let b = (and-eq-true_iff (lane_formed r (lane_in r st)) (bus_formed r (bus_in r st))).0 a.1 in
      record { sized = f.sized; lane = lane_runs r (lane_in r st) l.lane b.0; bus = bus_runs r (bus_in r st) l.bus b.1 }

  module _ (xs : List Float) (d : Bool) (frames : List Float) (gains : List ℕ) where
    abbrev own : List (Bool × Refusal)
    own = run_grounds st.strip.position xs (length frames) (length gains)

    pub run_declined : (k : Refusal) → first r st own ≡ Err k → went (Err (declined_with k st.strip)) st.store st.counts frames gains ≡ run_call r st xs d frames gains
    unfolding run_call
    run_declined k e = rw e

    pub run_done_lem : first r st own ≡ Ok tt → (s : Strip) (l : List Float) (u : List ℕ) (fs : List Float) (gs : List ℕ) (r' : Rate) (d' : Bool) (s' : Strip) (l' : List Float) (u' : List ℕ) (xs' : List Float)
        → ran_all s l u fs gs ≡ all_ran r' d' (state s' l' u') xs' → r' ≡ r → d' ≡ d → s' ≡ st.strip → l' ≡ st.store → u' ≡ st.counts → xs' ≡ xs → went (Ok s) l u fs gs ≡ run_call r st xs d frames gains
    unfolding run_call
    run_done_lem y s l u fs gs r' d' s' l' u' xs' h er ed es el eu ex =
        let g : ran_all s l u fs gs ≡ all_ran r d st xs = h ∙ rw (er, ed, es, el, eu, ex) in
        rw y (ap (λ (a : RanAll). went (Ok a.end.strip) a.end.store a.end.counts a.frames a.gains) g)
