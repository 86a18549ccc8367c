-- The loop of a run over blocks: what holds after i samples, and that a block keeps it. Assumes nothing.
use mathlib.Core.Path.{◌≡◌, refl, sym, ap, subst⁻¹, ◌∙◌}
use mathlib.Core.Bool.{Bool, true, false}
use Prim.Native.Nat.{ℕ, zero, suc, ◌+◌, ◌-◌, ◌*◌, ◌≤◌}
use native.Mathlib.Omega.{arith}
use mathlib.Core.List.{List, [], ◌∷◌}
use lib.Dec.{T}
use lib.ListN.{length, take, drop, length-map, length-drop}
use lib.Ieee.{Float}
use borrow.Rule.Slice.PartMut.{put_mid}
use Rattle.stage.specs.Stage.{Step, ran, outs, identity, flat_map}
use Rattle.stage.proofs.Laws.{outs_length}
use Rattle.stream.specs.declared.Frame.{Frame}
use Rattle.stage.proofs.Loop.{Wrote, Gone, wrote_start, wrote_done, gone_start, gone_done}
use Rattle.stage.proofs.Block.{gone_outs, gone_block, wrote_block, flat_take, flat_drop, flat_length}
use Rattle.rate.specs.declared.Rate.{Rate}
use Rattle.rate.specs.declared.TapeRate.{TapeRate}
use Rattle.rate.specs.Rate.{RateUsable}
use Rattle.ramp.specs.declared.Ramp.{Ramp}
use Rattle.sidechain.specs.declared.DuckRate.{DuckRate}
use Rattle.duck.specs.Cursors.{DuckIn, duck_on, duck_step_on, Within}
use Rattle.duck.proofs.Loops.{gain_within}
use Rattle.tape.specs.declared.TapeSetup.{TapeSetup}
use Rattle.tape.specs.Tape.{Lists}
use Rattle.tape.specs.Kept.{TapeIn, ducked_step_on, tape_tuned, tape_step_on}
use Rattle.tape.proofs.Lasting.{tuned_duck}
use Rattle.tape.proofs.Related.{ring_sized, counts_sized}
use Rattle.plate.specs.Plate.{PlateIn}
use Rattle.master.specs.declared.Heard.{Heard}
use Rattle.master.specs.Kept.{CeilingIn, ceiling_step_on, frames_out, counts_out}
use Rattle.master.specs.WellFormed.{well_formed}
use Rattle.master.proofs.Ready.{ready_of, of_ready}
use Rattle.master.proofs.Stays.{ready_next}
use Rattle.strip.specs.declared.Lane.{Lane}
use Rattle.strip.specs.Machine.{Sent}
use Rattle.strip.specs.Kept.{LaneIn, tape_in, values_room, positions_room, lists_in, lane_step_on, BusIn, plate_in, ceiling_in, mixed_step_on, bus_step_on, State, bus_in, lane_in, samples_behind, counts_behind, step_on}
use Rattle.strip.proofs.Sizes.{plate_sized}
use Rattle.strip.proofs.LaneRelates.{TapeLong, tape_of_lem, tape_long, lane_sized}
use Rattle.strip.proofs.BusRelates.{ceiling_of, plate_long, ceiling_sized, bus_sized}
use Rattle.strip.proofs.Parts.{Long, bus_of_lem, lane_of, sized_again}
use Rattle.strip.proofs.Relates.{step_position}
use Rattle.blocks.specs.Run.{LaneRuns, BusRuns, Runs, RanAll, all_ran}

-- ---- a sample leaves a strip that can run on

ducked_within : (r : DuckRate) (ducked d : Bool) (n : ℕ) (s : DuckIn) (x : Float) → Within s → Within (ducked_step_on r ducked d n s x).next
unfolding ducked_step_on
ducked_within r true d n s x w = unfold duck_step_on in gain_within r d n s w
ducked_within r false d n s x w = unfold identity in w

tape_within : (r : TapeRate) (s : TapeSetup) (daylight rain : Ramp) (l : Lists) (d : Bool) (n : ℕ) (t : TapeIn) (x : Float) → Within (duck_on t.tape.duck t.counts)
    → Within (duck_on (tape_step_on r s daylight rain l d n t x).next.tape.duck (tape_step_on r s daylight rain l d n t x).next.counts)
unfolding tape_step_on tape_tuned
tape_within r s daylight rain l d n t x w =
    ducked_within r.duck s.ducked d n _ _ (rw (tuned_duck r s.tone daylight l.positions l.values n t.tape) w)

-- the lane
module _ (r : Rate) (d : Bool) (n : ℕ) (k : LaneIn) (x : Float) (g : LaneRuns r k) where
  abbrev s : Lane
  s = k.lane

  abbrev y : TapeIn
  y = (tape_step_on r.tape s.setup.tape s.daylight s.rain (lists_in r k) d n (tape_in r k) x).next

  next_long : TapeLong r y
  next_long =
      let long = tape_long r k g.long in
      record {
        ring = ring_sized r.tape s.setup.tape s.daylight s.rain (lists_in r k) d n (tape_in r k) x ∙ long.ring;
        counts = counts_sized r.tape s.setup.tape s.daylight s.rain (lists_in r k) d n (tape_in r k) x ∙ long.counts;
      }

  lane_runs : LaneRuns r (lane_step_on r d n k x).next
  unfolding lane_step_on
  lane_runs =
      record {
        long = lane_sized r d n k x g.long;
        few = g.few;
        ducks =
            subst⁻¹ (λ (w : TapeIn). Within (duck_on y.tape.duck w.counts)) (tape_of_lem r s (values_room r k) (positions_room k) y next_long)
            (tape_within r.tape s.setup.tape s.daylight s.rain (lists_in r k) d n (tape_in r k) x g.ducks);
      }

-- the bus
module _ (r : Rate) (u : RateUsable r) (n : ℕ) (b : BusIn) (s : Sent) (g : BusRuns r b) where
  abbrev f : Step PlateIn Frame
  f = mixed_step_on r.plate n (plate_in r b) s

  abbrev h : Step CeilingIn Heard
  h = ceiling_step_on r.ceiling n (ceiling_in r b) f.out

  bus_runs : BusRuns r (bus_step_on r n b s).next
  unfolding bus_step_on mixed_step_on
  bus_runs =
      record {
        long = bus_sized r n b s g.long;
        well =
            subst⁻¹ (λ (w : CeilingIn). T (well_formed r.ceiling w)) (ceiling_of r f.next h.next (plate_sized r.plate n (plate_in r b) s.sent ∙ plate_long r b g.long))
            (of_ready r.ceiling h.next (ready_next r.ceiling u.ceiling n (ceiling_in r b) f.out (ready_of r.ceiling (ceiling_in r b) (ceiling_sized r b g.long) g.well)));
      }

step_runs : (r : Rate) → RateUsable r → (d : Bool) (n : ℕ) (st : State) (x : Float) → Runs r st → Runs r (step_on r d n st x).next
unfolding step_on
step_runs r u d n st x g =
    let y = lane_step_on r d n (lane_in r st) x in
    let h = bus_step_on r n (bus_in r st) y.out in
    let k = lane_runs r d n (lane_in r st) x g.lane in
    let b = bus_runs r u n (bus_in r st) y.out g.bus in
    let long : Long r y.next h.next = record { lane = k.long; bus = b.long } in
    record {
      sized = sized_again r u st g.sized (n + 1) y.next h.next long;
      lane = subst⁻¹ (LaneRuns r) (lane_of r (n + 1) y.next h.next (samples_behind r st.store) (counts_behind r st.counts) long) k;
      bus = subst⁻¹ (BusRuns r) (bus_of_lem r (n + 1) y.next h.next (samples_behind r st.store) (counts_behind r st.counts) long) b;
    }

pub ran_runs : (r : Rate) → RateUsable r → (d : Bool) (xs : List Float) (n : ℕ) (st : State) → Runs r st → Runs r (ran (step_on r d) n st xs)
unfolding ran
ran_runs r u d [] n st g = g
ran_runs r u d (x ∷ xs) n st g = ran_runs r u d xs (n + 1) (step_on r d n st x).next (step_runs r u d n st x g)

pub ran_position : (r : Rate) (d : Bool) (xs : List Float) (n : ℕ) (st : State) → st.strip.position ≡ n → (ran (step_on r d) n st xs).strip.position ≡ n + length xs
unfolding ran
ran_position r d [] n st e = omega arith
ran_position r d (x ∷ xs) n st e = ran_position r d xs (n + 1) (step_on r d n st x).next (step_position r d n st x) ∙ omega arith

-- ---- frames and gain counts of what is heard

two : Heard → List Float
two h = h.left ∷ h.right ∷ []

frames_flat : (hs : List Heard) → frames_out hs ≡ flat_map two hs
unfolding frames_out flat_map two
frames_flat [] = refl
frames_flat (h ∷ hs) = ap (λ (l : List Float). h.left ∷ h.right ∷ l) (frames_flat hs)

two_length : (h : Heard) → length (two h) ≡ 2
unfolding two
two_length h = refl

pub frames_length : (hs : List Heard) → length (frames_out hs) ≡ 2 * length hs
frames_length hs = ap length (frames_flat hs) ∙ flat_length two 2 two_length hs

frames_part : (m k : ℕ) (hs : List Heard) → frames_out (take m (drop k hs)) ≡ take (2 * m) (drop (2 * k) (frames_out hs))
frames_part m k hs =
    frames_flat (take m (drop k hs))
    ∙ flat_take two 2 two_length m (drop k hs)
    ∙ ap (take (2 * m)) (flat_drop two 2 two_length k hs ∙ ap (drop (2 * k)) (sym (frames_flat hs)))

counts_take : (m : ℕ) (hs : List Heard) → counts_out (take m hs) ≡ take m (counts_out hs)
counts_take zero hs = refl
counts_take (suc m) [] = refl
counts_take (suc m) (h ∷ hs) = ap (λ (l : List ℕ). h.count ∷ l) (counts_take m hs)

counts_drop : (m : ℕ) (hs : List Heard) → counts_out (drop m hs) ≡ drop m (counts_out hs)
counts_drop zero hs = refl
counts_drop (suc m) [] = refl
counts_drop (suc m) (h ∷ hs) = counts_drop m hs

-- ---- the loop

pub record Going (r : Rate) (d : Bool) (st₀ : State) (xs : List Float) (st : State) (fs : List Float) (gs : List ℕ) (i : ℕ) : Type 0 where
  pub gone : Gone (step_on r d) st₀.strip.position st₀ xs st i
  pub place : st.strip.position ≡ st₀.strip.position + i
  pub frames : Wrote (frames_out (outs (step_on r d) st₀.strip.position st₀ xs)) fs (2 * i)
  pub gains : Wrote (counts_out (outs (step_on r d) st₀.strip.position st₀ xs)) gs i
  pub runs : Runs r st

module _ (r : Rate) (u : RateUsable r) (d : Bool) (st₀ : State) (xs : List Float) where
  abbrev heard : List Heard
  heard = outs (step_on r d) st₀.strip.position st₀ xs

  heard_length : length heard ≡ length xs
  heard_length = outs_length (step_on r d) st₀.strip.position st₀ xs

  frames_all : length (frames_out heard) ≡ 2 * length xs
  frames_all = frames_length heard ∙ ap (λ (n : ℕ). 2 * n) heard_length

  gains_all : length (counts_out heard) ≡ length xs
  gains_all = length-map heard (λ (h : Heard). h.count) ∙ heard_length

  pub go_start : (fs : List Float) (gs : List ℕ) → Runs r st₀ → length fs ≡ 2 * length xs → length gs ≡ length xs → Going r d st₀ xs st₀ fs gs 0
  go_start fs gs g e f =
      record {
        gone = gone_start (step_on r d) st₀.strip.position st₀ xs;
        place = omega arith;
        frames = wrote_start (frames_out heard) fs (e ∙ sym frames_all);
        gains = wrote_start (counts_out heard) gs (f ∙ sym gains_all);
        runs = g;
      }

  pub go_turn : (st : State) (fs : List Float) (gs : List ℕ) (i e : ℕ) (o : RanAll) (ys : List Float) → Going r d st₀ xs st fs gs i → i ≤ e → e ≤ length xs → ys ≡ take (e - i) (drop i xs) → o ≡ all_ran r d st ys
      → Going r d st₀ xs o.end (put_mid (2 * i) (2 * e - 2 * i) fs o.frames) (put_mid i (e - i) gs o.gains) e
  go_turn st fs gs i e o ys p h k y t =
      let n = st₀.strip.position in
      let part = take (e - i) (drop i xs) in
      let q : o ≡ all_ran r d st part = t ∙ ap (all_ran r d st) y in
      let at : st.strip.position ≡ n + i = p.place in
      let q₁ : o.end ≡ ran (step_on r d) (n + i) st part = ap (λ (t : RanAll). t.end) q ∙ ap (λ (m : ℕ). ran (step_on r d) m st part) at in
      let w : outs (step_on r d) (n + i) st part ≡ take (e - i) (drop i heard) = gone_outs (step_on r d) n st₀ xs st i e p.gone h k in
      let v : outs (step_on r d) st.strip.position st part ≡ take (e - i) (drop i heard) = ap (λ (m : ℕ). outs (step_on r d) m st part) at ∙ w in
      let z : 2 * (e - i) ≡ 2 * e - 2 * i = omega arith in
      let q₂ : o.frames ≡ take (2 * e - 2 * i) (drop (2 * i) (frames_out heard)) = ap (λ (t : RanAll). t.frames) q ∙ ap frames_out v ∙ frames_part (e - i) i heard ∙ ap (λ (m : ℕ). take m (drop (2 * i) (frames_out heard))) z in
      let q₃ : o.gains ≡ take (e - i) (drop i (counts_out heard)) = ap (λ (t : RanAll). t.gains) q ∙ ap counts_out v ∙ counts_take (e - i) (drop i heard) ∙ ap (take (e - i)) (counts_drop i heard) in
      let fa = frames_all in
      let ga = gains_all in
      let lp : length part ≡ e - i = lib.Seq.length-take-le (e - i) (drop i xs) (rw length-drop (omega arith)) in
      record {
        gone = gone_block (step_on r d) n st₀ xs st i e p.gone h k o.end q₁;
        place = ap (λ (t : State). t.strip.position) q₁ ∙ ran_position r d part (n + i) st at ∙ omega arith;
        frames = wrote_block (frames_out heard) fs o.frames (2 * i) (2 * e) p.frames (omega arith) (omega arith) q₂;
        gains = wrote_block (counts_out heard) gs o.gains i e p.gains h (omega arith) q₃;
        runs = subst⁻¹ (Runs r) q₁ (ran_runs r u d part (n + i) st p.runs);
      }

  pub go_done : (st : State) (fs : List Float) (gs : List ℕ) (i : ℕ) → Going r d st₀ xs st fs gs i → length xs ≤ i → ◌≡◌ {A = RanAll} (record { end = st; frames = fs; gains = gs }) (all_ran r d st₀ xs)
  go_done st fs gs i p h =
      let e₁ : st ≡ ran (step_on r d) st₀.strip.position st₀ xs = gone_done (step_on r d) st₀.strip.position st₀ xs st i p.gone h in
      let e₂ : fs ≡ frames_out heard = wrote_done (frames_out heard) fs (2 * i) p.frames (let a = frames_all in omega arith) in
      let e₃ : gs ≡ counts_out heard = wrote_done (counts_out heard) gs i p.gains (let a = gains_all in omega arith) in
      ap (λ (v : State). made v fs gs) e₁ ∙ ap (λ (v : List Float). made (ran (step_on r d) st₀.strip.position st₀ xs) v gs) e₂ ∙ ap (λ (v : List ℕ). made (ran (step_on r d) st₀.strip.position st₀ xs) (frames_out heard) v) e₃
    where
      made : State → List Float → List ℕ → RanAll
      made v a b = record { end = v; frames = a; gains = b }
