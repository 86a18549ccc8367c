-- What is lent of a part, and what the part holds when it is back. Assumes nothing.
use mathlib.Core.Path.{◌≡◌, ap, ◌∙◌}
use Prim.Native.Nat.{ℕ, ◌+◌, ◌-◌}
use mathlib.Core.List.{List, ◌++◌}
use lib.ListN.{length, take, drop}
use lib.Ieee.{Float}
use borrow.Rule.Slice.PartMut.{mid_of, put_mid}
use Rattle.stage.specs.Stage.{over}
use Rattle.stage.proofs.Parts.{behind_lent, behind_put}
use Rattle.rate.specs.declared.Rate.{Rate}
use Rattle.rate.specs.Rate.{RateUsable, Sized}
use Rattle.rate.specs.Stores.{bus_samples, bus_counts, lane_samples, lane_counts}
use Rattle.tape.specs.Tape.{Lists}
use Rattle.strip.specs.declared.Setup.{Setup}
use Rattle.strip.specs.declared.Lane.{Lane}
use Rattle.strip.specs.declared.Bus.{Bus}
use Rattle.strip.specs.Kept.{LaneIn, lane_on, BusIn, bus_on, state, samples_behind, counts_behind, state_of, opened_lane, opened_bus, opened_state}
use Rattle.strip.proofs.Parts.{lane_lent, bus_lent, both_back}

-- ---- the first w places, back as Z, and a list laid behind them, back as W
pub laid_behind : {X : Type 0} (w : ℕ) (l Z : List X) → length Z ≡ w → (L W : List X) → W ≡ over L (mid_of w (length (Z ++ drop (w - 0) l) - w) (Z ++ drop (w - 0) l))
    → put_mid w (length (Z ++ drop (w - 0) l) - w) (Z ++ drop (w - 0) l) W ≡ Z ++ over L (drop w l)
laid_behind {X} w l Z z L W e = behind_put w l Z z W ∙ ap (λ (t : List X). Z ++ t) (e ∙ ap (over L) (behind_lent w l Z z))

-- ---- the lane and the bus that open leaves, put together
module _ (r : Rate) (u : RateUsable r) (s : Setup) (ls : Lists) (store : List Float) (counts : List ℕ) (z : Sized r store counts)
    (b e c f : ℕ) (at : b ≡ bus_samples r) (end : e ≡ b + lane_samples r) (ats : c ≡ bus_counts r) (ends : f ≡ c + lane_counts) (L : List Float) (U : List ℕ) where
  pub opened_whole : (k : Lane) (v : Bus) (B : List Float) (G : List ℕ)
      → lane_on k L U ≡ opened_lane r s ls (mid_of b (e - b) store) (mid_of c (f - c) counts)
      → bus_on v B G ≡ opened_bus r (mid_of 0 (b - 0) (put_mid b (e - b) store L)) (mid_of 0 (c - 0) (put_mid c (f - c) counts U))
      → state (record { position = 0; lane = k; bus = v }) (put_mid 0 (b - 0) (put_mid b (e - b) store L) B) (put_mid 0 (c - 0) (put_mid c (f - c) counts U) G) ≡ opened_state r s ls store counts
  unfolding opened_state
  opened_whole k v B G el ev =
      both_back r u store counts z b e c f at end ats ends L U 0 k v B G
      ∙ ap (λ (x : LaneIn). state_of 0 x (bus_on v B G) (samples_behind r store) (counts_behind r counts)) (el ∙ ap (λ (x : LaneIn). opened_lane r s ls x.samples x.counts) (lane_lent r u store counts z b e c f at end ats ends k))
      ∙ ap (λ (x : BusIn). state_of 0 (opened_lane r s ls (take (lane_samples r) (drop (bus_samples r) store)) (take lane_counts (drop (bus_counts r) counts))) x (samples_behind r store) (counts_behind r counts))
      (ev ∙ ap (λ (x : BusIn). opened_bus r x.samples x.counts) (bus_lent r u store counts z b e c f at end ats ends L U v))
