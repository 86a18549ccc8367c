-- A block of the lane, of the bus and of the strip: what the calls inside leave in their parts is what the definitions say of the whole. Assumes nothing.
use mathlib.Core.Path.{◌≡◌, refl, sym, ap, subst⁻¹, ◌∙◌}
use mathlib.Core.Bool.{Bool}
use Prim.Native.Nat.{ℕ, ◌+◌, ◌-◌, ◌≤◌}
use native.Mathlib.Omega.{arith}
use mathlib.Core.List.{List, [], ◌∷◌, ◌++◌, map}
use lib.Dec.{T}
use lib.ListN.{length, take, drop}
use lib.Seq.{length-take-le}
use lib.Ieee.{Float}
use borrow.Rule.Slice.PartMut.{mid_of, put_mid}
use Rattle.casts.specs.Arithmetic.{◌⊗◌}
use Rattle.stage.specs.Stage.{Stage, ran, outs}
use Rattle.stage.proofs.Parts.{behind_lent, behind_put}
use Rattle.stream.specs.declared.Frame.{Frame}
use Rattle.rate.specs.declared.Rate.{Rate}
use Rattle.rate.specs.Rate.{RateUsable}
use Rattle.rate.specs.Stores.{plate_samples, bus_samples, bus_counts, warp_samples, lane_samples, lane_counts}
use Rattle.duck.specs.Cursors.{duck_counts}
use Rattle.tape.specs.declared.Tape.{Tape}
use Rattle.tape.specs.Kept.{WarpFits, TapeIn, tape_on, tape_tuned, tuned_at, tape_step_on}
use Rattle.tape.proofs.Lasting.{tuned_ran, tuned_outs}
use Rattle.plate.specs.declared.Plate.{Plate}
use Rattle.plate.specs.Plate.{PlateIn, plate_on}
use Rattle.master.specs.declared.Ceiling.{Ceiling}
use Rattle.master.specs.declared.Heard.{Heard}
use Rattle.master.specs.Kept.{CeilingIn, ceiling_on, ceiling_step_on, frames_in, frames_out, counts_out}
use Rattle.master.specs.WellFormed.{well_formed, Sized}
use Rattle.strip.specs.declared.Lane.{Lane}
use Rattle.strip.specs.declared.Bus.{Bus}
use Rattle.strip.specs.declared.Strip.{Strip}
use Rattle.strip.specs.Machine.{Sent, sent_at}
use Rattle.strip.specs.Kept.{LaneIn, lane_on, tape_in, values_room, positions_room, lane_of, lane_step_on, BusIn, bus_on, plate_in, ceiling_in, bus_of, mixed_step_on, bus_step_on, State, state, bus_in, lane_in, samples_behind, counts_behind, state_of, step_on}
use Rattle.strip.proofs.LaneRelates.{TapeLong, tape_long, lane_whole, points_at, lane_ran, lane_outs}
use Rattle.strip.proofs.BusRelates.{plate_long, ceiling_sized, bus_whole, bus_ran, bus_outs}
use Rattle.strip.proofs.Parts.{Long, parts_long, is_whole, lane_lent, bus_lent, both_back, chain_ran, chain_outs}
use Rattle.blocks.specs.Run.{sents_in, LaneRuns, BusRuns, Runs, tuned_of, Piecewise, RanAll, ran_all, all_ran}
use Rattle.blocks.proofs.Mixed.{sents_map}

-- ---- the lane, whose tape is lent the first w samples and the duck's counts

pub warp_fits : (r : Rate) → RateUsable r → (samples : List Float) (w : ℕ) → w ≡ warp_samples r.tape → length samples ≡ lane_samples r → WarpFits r.tape (mid_of 0 (w - 0) samples)
warp_fits r u samples w at e =
    let n : w - 0 ≡ warp_samples r.tape = omega arith in
    let l : length (mid_of 0 (w - 0) samples) ≡ warp_samples r.tape = rw n (length-take-le (warp_samples r.tape) samples (omega arith)) in
    record { some = u.tape.warp.some; room = rw (l, u.tape.placed) (omega arith); reach = u.tape.reach }

module _ (r : Rate) (k : Lane) (tuned : Tape) (d : Bool) (n : ℕ) (samples : List Float) (counts : List ℕ) (xs : List Float)
    (runs : LaneRuns r (lane_on k samples counts)) (is : tuned ≡ tuned_of r n (lane_on k samples counts)) (piece : Piecewise tuned.until n (length xs)) where
  abbrev kept : LaneIn
  kept = lane_on k samples counts

  abbrev t : TapeIn
  t = tape_in r kept

  abbrev each : Stage TapeIn Float Float
  each = tape_step_on r.tape k.setup.tape k.daylight k.rain (points_at k (values_room r kept) (positions_room kept) []) d

  abbrev once : Stage TapeIn Float Float
  once = tape_tuned r.tape k.setup.tape k.rain d

  long : TapeLong r t
  long = tape_long r kept runs.long

  few : n + length xs ≤ (tuned_at r.tape k.setup.tape.tone k.daylight (take k.points (positions_room kept)) (take k.points (values_room r kept)) n k.tape).until
  few = rw is at piece.few

  module _ (w : ℕ) (at : w ≡ warp_samples r.tape) (tape : Tape) (A : List Float) (U : List ℕ) (ys ss : List Float)
      (tape_ran : tape_on tape A U ≡ ran once n (tape_on tuned (mid_of 0 (w - 0) samples) (mid_of 0 duck_counts counts)) xs)
      (tape-gave : ys ≡ outs once n (tape_on tuned (mid_of 0 (w - 0) samples) (mid_of 0 duck_counts counts)) xs)
      (sent : ss ≡ map (λ y. y ⊗ k.setup.send) ys) where
    warps : w - 0 ≡ warp_samples r.tape
    warps = omega arith

    pub lane_ended : lane_on (record { setup = k.setup; points = k.points; daylight = k.daylight; rain = k.rain; tape = tape }) (put_mid 0 (w - 0) samples A) (put_mid 0 duck_counts counts U)
        ≡ ran (lane_step_on r d) n kept xs
    lane_ended =
        let s : tape_on tape A U ≡ ran each n t xs = (rw (warps, is) at tape_ran) ∙ sym (tuned_ran r.tape k.setup.tape k.daylight k.rain (points_at k (values_room r kept) (positions_room kept) []) d n t xs piece.some few) in
        rw warps
        (ap (lane_of k (values_room r kept) (positions_room kept)) s
        ∙ sym (lane_ran r k (values_room r kept) (positions_room kept) [] d n t long xs)
        ∙ ap (λ (v : LaneIn). ran (lane_step_on r d) n v xs) (lane_whole r kept))

    pub lane_gave : sents_in ys ss ≡ outs (lane_step_on r d) n kept xs
    lane_gave =
        let y : ys ≡ outs each n t xs = (rw (warps, is) at tape-gave) ∙ sym (tuned_outs r.tape k.setup.tape k.daylight k.rain (points_at k (values_room r kept) (positions_room kept) []) d n t xs piece.some few) in
        ap (sents_in ys) sent
        ∙ sents_map k.setup.send ys
        ∙ ap (map (sent_at k.setup.send)) y
        ∙ sym (lane_outs r k (values_room r kept) (positions_room kept) [] d n t long xs)
        ∙ ap (λ (v : LaneIn). outs (lane_step_on r d) n v xs) (lane_whole r kept)

-- ---- the bus, whose plate is lent the first p samples, and the ceiling those behind them

frames_maps : (fs : List Frame) → frames_in (map (λ (f : Frame). f.left) fs) (map (λ (f : Frame). f.right) fs) ≡ fs
unfolding frames_in
frames_maps [] = refl
frames_maps (f ∷ fs) = ap (λ (l : List Frame). f ∷ l) (frames_maps fs)

module _ (r : Rate) (b : Bus) (n : ℕ) (samples : List Float) (counts : List ℕ) (ss : List Sent) (runs : BusRuns r (bus_on b samples counts)) where
  abbrev on : BusIn
  on = bus_on b samples counts

  abbrev mix : Stage PlateIn Sent Frame
  mix = mixed_step_on r.plate

  abbrev limit : Stage CeilingIn Frame Heard
  limit = ceiling_step_on r.ceiling

  abbrev mixed : List Frame
  mixed = outs mix n (plate_in r on) ss

  plates : length (plate_in r on).part ≡ plate_samples r.plate
  plates = plate_long r on runs.long

  module _ (p : ℕ) (at : p ≡ plate_samples r.plate) (B : List Float) (sized : length B ≡ p) where
    abbrev half : List Float
    half = B ++ drop (p - 0) samples

    -- what the ceiling is lent
    abbrev lent : CeilingIn
    lent = ceiling_on b.ceiling (mid_of p (length half - p) half) counts

    ceiling_lent : lent ≡ ceiling_in r on
    ceiling_lent = rw (behind_lent p samples B sized, at)

    pub ceiling_room : Sized r.ceiling lent.samples lent.counts
    ceiling_room = subst⁻¹ (λ (c : CeilingIn). Sized r.ceiling c.samples c.counts) ceiling_lent (ceiling_sized r on runs.long)

    pub ceiling_well : T (well_formed r.ceiling lent)
    ceiling_well = subst⁻¹ (λ (c : CeilingIn). T (well_formed r.ceiling c)) ceiling_lent runs.well

    module _ (plate : Plate) (ls rs : List Float)
        (mix-ran : plate_on plate B ≡ ran mix n (plate_on b.plate (mid_of 0 (p - 0) samples)) ss)
        (mix-left : ls ≡ map (λ (f : Frame). f.left) (outs mix n (plate_on b.plate (mid_of 0 (p - 0) samples)) ss))
        (mix-right : rs ≡ map (λ (f : Frame). f.right) (outs mix n (plate_on b.plate (mid_of 0 (p - 0) samples)) ss)) where
      lines : p - 0 ≡ plate_samples r.plate
      lines = omega arith

      mixed_are : frames_in ls rs ≡ mixed
      mixed_are = rw ((rw lines at mix-left), (rw lines at mix-right)) (frames_maps mixed)

      pub bus_ended : (ceiling : Ceiling) (C : List Float) (G : List ℕ) → ceiling_on ceiling C G ≡ ran limit n lent (frames_in ls rs)
          → bus_on (record { plate = plate; ceiling = ceiling }) (put_mid p (length half - p) half C) G ≡ ran (bus_step_on r) n on ss
      bus_ended ceiling C G ceiling-ran =
          let s₁ : plate_on plate B ≡ ran mix n (plate_in r on) ss = rw lines at mix-ran in
          let s₂ : ceiling_on ceiling C G ≡ ran limit n (ceiling_in r on) mixed = rw (ceiling_lent, mixed_are) at ceiling-ran in
          rw (behind_put p samples B sized C)
          (ap (λ (v : PlateIn). bus_of v (ceiling_on ceiling C G)) s₁
          ∙ ap (bus_of (ran mix n (plate_in r on) ss)) s₂
          ∙ sym (bus_ran r n (plate_in r on) (ceiling_in r on) plates ss)
          ∙ ap (λ (v : BusIn). ran (bus_step_on r) n v ss) (bus_whole r on))

      pub bus_gave : outs limit n lent (frames_in ls rs) ≡ outs (bus_step_on r) n on ss
      bus_gave =
          rw (ceiling_lent, mixed_are)
          (sym (bus_outs r n (plate_in r on) (ceiling_in r on) plates ss) ∙ ap (λ (v : BusIn). outs (bus_step_on r) n v ss) (bus_whole r on))

-- ---- the strip, whose lane is lent the parts from b to e and from c to f, and the bus those before them

made : State → List Float → List ℕ → RanAll
made st frames gains = record { end = st; frames = frames; gains = gains }

module _ (r : Rate) (u : RateUsable r) (s : Strip) (store : List Float) (counts : List ℕ) (runs : Runs r (state s store counts)) where
  abbrev st : State
  st = state s store counts

  parts : Long r (lane_in r st) (bus_in r st)
  parts = parts_long r u st runs.sized

  module _ (b e c f : ℕ) (at : b ≡ bus_samples r) (end : e ≡ b + lane_samples r) (ats : c ≡ bus_counts r) (ends : f ≡ c + lane_counts) where
    pub lane_of_lent : lane_on s.lane (mid_of b (e - b) store) (mid_of c (f - c) counts) ≡ lane_in r st
    lane_of_lent = lane_lent r u store counts runs.sized b e c f at end ats ends s.lane

    pub bus_of_lent : (L : List Float) (U : List ℕ) → bus_on s.bus (mid_of 0 (b - 0) (put_mid b (e - b) store L)) (mid_of 0 (c - 0) (put_mid c (f - c) counts U)) ≡ bus_in r st
    bus_of_lent L U = bus_lent r u store counts runs.sized b e c f at end ats ends L U s.bus

    abbrev m : ℕ
    m = s.position

    abbrev bus : Stage BusIn Sent Heard
    bus = bus_step_on r

    module _ (d : Bool) (xs : List Float) (L : List Float) (U : List ℕ) (l : Lane) (v : Bus) (B : List Float) (G : List ℕ) (ss : List Sent) (fs : List Float) (gs : List ℕ)
        (lane_ran : lane_on l L U ≡ ran (lane_step_on r d) m (lane_on s.lane (mid_of b (e - b) store) (mid_of c (f - c) counts)) xs)
        (lane_gave : ss ≡ outs (lane_step_on r d) m (lane_on s.lane (mid_of b (e - b) store) (mid_of c (f - c) counts)) xs)
        (bus_ran : bus_on v B G ≡ ran bus m (bus_on s.bus (mid_of 0 (b - 0) (put_mid b (e - b) store L)) (mid_of 0 (c - 0) (put_mid c (f - c) counts U))) ss)
        (bus-frames : fs ≡ frames_out (outs bus m (bus_on s.bus (mid_of 0 (b - 0) (put_mid b (e - b) store L)) (mid_of 0 (c - 0) (put_mid c (f - c) counts U))) ss))
        (bus-gains : gs ≡ counts_out (outs bus m (bus_on s.bus (mid_of 0 (b - 0) (put_mid b (e - b) store L)) (mid_of 0 (c - 0) (put_mid c (f - c) counts U))) ss)) where
      abbrev lane : Stage LaneIn Float Sent
      lane = lane_step_on r d

      abbrev sent : List Sent
      sent = outs lane m (lane_in r st) xs

      pub block_ended : ran_all (record { position = m + length xs; lane = l; bus = v }) (put_mid 0 (b - 0) (put_mid b (e - b) store L) B) (put_mid 0 (c - 0) (put_mid c (f - c) counts U) G) fs gs
          ≡ all_ran r d st xs
      unfolding made
      block_ended =
          let q : ss ≡ sent = rw lane_of_lent at lane_gave in
          let k₁ : lane_on l L U ≡ ran lane m (lane_in r st) xs = rw lane_of_lent at lane_ran in
          let k₂ : bus_on v B G ≡ ran bus m (bus_in r st) sent = rw (bus_of_lent L U, q) at bus_ran in
          let w = is_whole r st in
          let ended : state_of (m + length xs) (lane_on l L U) (bus_on v B G) (samples_behind r store) (counts_behind r counts) ≡ ran (step_on r d) m st xs =
          ap (λ (x : LaneIn). state_of (m + length xs) x (bus_on v B G) (samples_behind r store) (counts_behind r counts)) k₁
          ∙ ap (λ (x : BusIn). state_of (m + length xs) (ran lane m (lane_in r st) xs) x (samples_behind r store) (counts_behind r counts)) k₂
          ∙ sym (chain_ran r (samples_behind r store) (counts_behind r counts) d m (lane_in r st) (bus_in r st) parts xs)
          ∙ ap (λ (x : State). ran (step_on r d) m x xs) w in
          let heard : outs bus m (bus_in r st) sent ≡ outs (step_on r d) m st xs =
          sym (chain_outs r (samples_behind r store) (counts_behind r counts) d m (lane_in r st) (bus_in r st) parts xs) ∙ ap (λ (x : State). outs (step_on r d) m x xs) w in
          let g₁ : fs ≡ frames_out (outs (step_on r d) m st xs) = (rw (bus_of_lent L U, q) at bus-frames) ∙ ap frames_out heard in
          let g₂ : gs ≡ counts_out (outs (step_on r d) m st xs) = (rw (bus_of_lent L U, q) at bus-gains) ∙ ap counts_out heard in
          ap (λ (x : State). made x fs gs) (both_back r u store counts runs.sized b e c f at end ats ends L U (m + length xs) l v B G)
          ∙ ap (λ (x : State). made x fs gs) ended
          ∙ ap (λ (x : List Float). made (ran (step_on r d) m st xs) x gs) g₁
          ∙ ap (made (ran (step_on r d) m st xs) (frames_out (outs (step_on r d) m st xs))) g₂
