-- A strip put together of its lane and its bus: their parts of the stores, and sample by sample over the whole is the lane and then the bus. Assumes nothing.
use mathlib.Core.Path.{◌≡◌, ap, ◌∙◌}
use mathlib.Core.Bool.{Bool}
use Prim.Native.Nat.{ℕ, ◌+◌, ◌-◌, ◌<◌, ◌≤◌}
use native.Mathlib.Omega.{arith}
use mathlib.Core.List.{List, ◌++◌}
use lib.ListN.{length, take, drop, length-append, length-drop}
use lib.Ieee.{Float}
use borrow.Rule.Slice.PartMut.{mid_of, put_mid}
use Rattle.stage.specs.Stage.{Stage, ran, outs, both}
use Rattle.stage.proofs.Laws.{ran_both, outs_both, ran_carried, outs_carried}
use Rattle.stage.proofs.Parts.{apart, first_length, second_length, first_part, second_part, rest_part, second_lent, first_lent, both_put}
use Rattle.rate.specs.declared.Rate.{Rate}
use Rattle.rate.specs.Rate.{RateUsable, Sized}
use Rattle.rate.specs.Stores.{bus_samples, bus_counts, lane_samples, lane_counts}
use Rattle.master.specs.declared.Heard.{Heard}
use Rattle.strip.specs.declared.Lane.{Lane}
use Rattle.strip.specs.declared.Bus.{Bus}
use Rattle.strip.specs.Machine.{Sent}
use Rattle.strip.specs.Kept.{LaneIn, lane_on, lane_step_on, BusIn, bus_on, bus_step_on, State, state, bus_in, lane_in, samples_behind, counts_behind, state_of, step_on, LaneLong, BusLong}
use Rattle.strip.proofs.LaneRelates.{lane_sized}
use Rattle.strip.proofs.BusRelates.{bus_sized}

-- how long the parts are
pub record Long (r : Rate) (k : LaneIn) (b : BusIn) : Type 0 where
  pub lane : LaneLong r k
  pub bus : BusLong r b

module _ (r : Rate) (n : ℕ) (k : LaneIn) (b : BusIn) (samples : List Float) (counts : List ℕ) (long : Long r k b) where
  abbrev all : State
  all = state_of n k b samples counts

  pub bus_of_lem : bus_in r all ≡ b
  bus_of_lem =
      rw (first_part (bus_samples r) (lane_samples r) b.samples k.samples samples long.bus.samples long.lane.samples, first_part (bus_counts r) lane_counts b.counts k.counts counts long.bus.counts long.lane.counts)

  pub lane_of : lane_in r all ≡ k
  lane_of =
      rw (second_part (bus_samples r) (lane_samples r) b.samples k.samples samples long.bus.samples long.lane.samples, second_part (bus_counts r) lane_counts b.counts k.counts counts long.bus.counts long.lane.counts)

  pub samples_of : samples_behind r all.store ≡ samples
  samples_of = rest_part (bus_samples r) (lane_samples r) b.samples k.samples samples long.bus.samples long.lane.samples

  pub counts_of_lem : counts_behind r all.counts ≡ counts
  counts_of_lem = rest_part (bus_counts r) lane_counts b.counts k.counts counts long.bus.counts long.lane.counts

  pub store_length : length all.store ≡ bus_samples r + lane_samples r + length samples
  store_length = length-append b.samples (k.samples ++ samples) ∙ omega (arith, length-append k.samples samples, long.bus.samples, long.lane.samples)

  pub counts_length : length all.counts ≡ bus_counts r + lane_counts + length counts
  counts_length = length-append b.counts (k.counts ++ counts) ∙ omega (arith, length-append k.counts counts, long.bus.counts, long.lane.counts)

-- a strip with its stores is put together of its parts
pub is_whole : (r : Rate) (st : State) → state_of st.strip.position (lane_in r st) (bus_in r st) (samples_behind r st.store) (counts_behind r st.counts) ≡ st
is_whole r st =
    ap (λ (l : List Float). state st.strip l (take (bus_counts r) st.counts ++ (take lane_counts (drop (bus_counts r) st.counts) ++ counts_behind r st.counts))) (apart (bus_samples r) (lane_samples r) st.store)
    ∙ ap (state st.strip st.store) (apart (bus_counts r) lane_counts st.counts)

-- and they are as long as they should be where the stores have room
pub parts_long : (r : Rate) → RateUsable r → (st : State) → Sized r st.store st.counts → Long r (lane_in r st) (bus_in r st)
parts_long r u st z =
    let a : bus_samples r + lane_samples r ≤ length st.store = omega (arith, u.samples, z.long) in
    let b : bus_counts r + lane_counts ≤ length st.counts = omega (arith, u.counts, z.wide) in
    record {
      lane = record { samples = second_length (bus_samples r) (lane_samples r) st.store a; counts = second_length (bus_counts r) lane_counts st.counts b };
      bus = record { samples = first_length (bus_samples r) (lane_samples r) st.store a; counts = first_length (bus_counts r) lane_counts st.counts b };
    }

-- a strip of other parts with what lay behind them has the stores' lengths
pub sized_again : (r : Rate) → RateUsable r → (st : State) → Sized r st.store st.counts → (n : ℕ) (k : LaneIn) (b : BusIn) → Long r k b
    → let next = state_of n k b (samples_behind r st.store) (counts_behind r st.counts) in Sized r next.store next.counts
sized_again r u st z n k b l =
    let e = store_length r n k b (samples_behind r st.store) (counts_behind r st.counts) l in
    let f = counts_length r n k b (samples_behind r st.store) (counts_behind r st.counts) l in
    let g = length-drop (bus_samples r + lane_samples r) st.store in
    let h = length-drop (bus_counts r + lane_counts) st.counts in
    record { long = omega (arith, u.samples, z.long); wide = omega (arith, u.counts, z.wide) }

-- ---- the lane lent its parts, from b to e and from c to f, and then the bus those before them

module _ (r : Rate) (u : RateUsable r) (store : List Float) (counts : List ℕ) (z : Sized r store counts)
    (b e c f : ℕ) (at : b ≡ bus_samples r) (end : e ≡ b + lane_samples r) (ats : c ≡ bus_counts r) (ends : f ≡ c + lane_counts) where
  room : b + lane_samples r ≤ length store
  room = omega (arith, u.samples, z.long)

  rooms : c + lane_counts ≤ length counts
  rooms = omega (arith, u.counts, z.wide)

  pub lane_lent : (k : Lane) → lane_on k (mid_of b (e - b) store) (mid_of c (f - c) counts) ≡ lane_on k (take (lane_samples r) (drop (bus_samples r) store)) (take lane_counts (drop (bus_counts r) counts))
  lane_lent k = rw (second_lent b (lane_samples r) e store end, second_lent c lane_counts f counts ends, at, ats)

  module _ (L : List Float) (U : List ℕ) where
    pub bus_lent : (v : Bus) → bus_on v (mid_of 0 (b - 0) (put_mid b (e - b) store L)) (mid_of 0 (c - 0) (put_mid c (f - c) counts U)) ≡ bus_on v (take (bus_samples r) store) (take (bus_counts r) counts)
    bus_lent v = rw (first_lent b (lane_samples r) e store end room L, first_lent c lane_counts f counts ends rooms U, at, ats)

    pub both_back : (n : ℕ) (k : Lane) (v : Bus) (B : List Float) (G : List ℕ)
        → state (record { position = n; lane = k; bus = v }) (put_mid 0 (b - 0) (put_mid b (e - b) store L) B) (put_mid 0 (c - 0) (put_mid c (f - c) counts U) G)
        ≡ state_of n (lane_on k L U) (bus_on v B G) (samples_behind r store) (counts_behind r counts)
    both_back n k v B G = rw (both_put b (lane_samples r) e store end room L B, both_put c lane_counts f counts ends rooms U G, at, ats)

-- ---- a block

module _ (r : Rate) (samples : List Float) (counts : List ℕ) (d : Bool) where
  abbrev lane : Stage LaneIn Float Sent
  lane = lane_step_on r d

  abbrev bus : Stage BusIn Sent Heard
  bus = bus_step_on r

  glue : ℕ → LaneIn × BusIn → State
  glue n u = state_of n u.0 u.1 samples counts

  long_keeps : (e n : ℕ) (u : LaneIn × BusIn) (x : Float) → n < e → Long r u.0 u.1 → Long r (both lane bus n u x).next.0 (both lane bus n u x).next.1
  long_keeps e n u x h l = record { lane = lane_sized r d n u.0 x l.lane; bus = bus_sized r n u.1 _ l.bus }

  glue_same : (e n : ℕ) (u : LaneIn × BusIn) (x : Float) → n < e → Long r u.0 u.1 → step_on r d n (glue n u) x ≡ record { next = glue (n + 1) (both lane bus n u x).next; out = (both lane bus n u x).out }
  unfolding glue step_on
  glue_same e n u x h l =
      rw (lane_of r n u.0 u.1 samples counts l, bus_of_lem r n u.0 u.1 samples counts l, samples_of r n u.0 u.1 samples counts l, counts_of_lem r n u.0 u.1 samples counts l)

  module _ (n : ℕ) (k : LaneIn) (b : BusIn) (l : Long r k b) (xs : List Float) where
    pub chain_ran : ran (step_on r d) n (state_of n k b samples counts) xs ≡ state_of (n + length xs) (ran lane n k xs) (ran bus n b (outs lane n k xs)) samples counts
    unfolding glue
    chain_ran =
        ran_carried (both lane bus) (step_on r d) glue (n + length xs) (λ m u. Long r u.0 u.1) (long_keeps (n + length xs)) (glue_same (n + length xs)) n (k, b) xs (omega arith) l
        ∙ ap (glue (n + length xs)) (ran_both lane bus n k b xs)

    pub chain_outs : outs (step_on r d) n (state_of n k b samples counts) xs ≡ outs bus n b (outs lane n k xs)
    unfolding glue
    chain_outs =
        outs_carried (both lane bus) (step_on r d) glue (n + length xs) (λ m u. Long r u.0 u.1) (long_keeps (n + length xs)) (glue_same (n + length xs)) n (k, b) xs (omega arith) l
        ∙ outs_both lane bus n k b xs
