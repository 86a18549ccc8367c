-- The bus: put together of its plate and its ceiling, over a block, beside the machine's, and its gain bound. Assumes nothing.
use mathlib.Core.Path.{◌≡◌, refl, ap, subst⁻¹, ◌∙◌}
use mathlib.Core.Bool.{Bool, true, false}
use Prim.Native.Nat.{ℕ, ◌+◌, ◌*◌, ◌<◌, ◌≤◌, suc}
use native.Mathlib.Omega.{arith}
use mathlib.Core.List.{List, [], ◌∷◌}
use lib.Dec.{T}
use lib.ListN.{length, drop, replicate, get_or, length-append, length-drop, length-map, length-replicate, take-append-drop, get_or-map}
use lib.Seq.{take_at, drop_at}
use lib.Ieee.{Float}
use Rattle.casts.specs.Arithmetic.{nought}
use Rattle.casts.specs.Step.{step_of}
use Rattle.stage.specs.Stage.{Step, Stage, ran, outs, both}
use Rattle.stage.proofs.Laws.{Relates, Both, relates_both, ran_both, outs_both, ran_carried, outs_carried, outs_length}
use Rattle.stream.specs.declared.Frame.{Frame}
use Rattle.rate.specs.declared.Rate.{Rate}
use Rattle.rate.specs.declared.PlateRate.{PlateRate}
use Rattle.rate.specs.Rate.{RateUsable}
use Rattle.rate.specs.Plate.{PlateUsable}
use Rattle.rate.specs.Stores.{plate_samples, bus_samples, bus_counts}
use Rattle.plate.specs.Machine.{PlateMachine, fresh_plate}
use Rattle.plate.specs.Plate.{PlateIn, plate_on, fresh_on}
use Rattle.plate.proofs.Theorem.{PlateHolds, plate_relates}
use Rattle.plate.proofs.Fresh.{plate_fresh, plate_rest}
use Rattle.master.specs.declared.Heard.{Heard}
use Rattle.master.specs.Ceiling.{CeilingMachine, ceiling_step, fresh_machine}
use Rattle.master.specs.Kept.{CeilingIn, ceiling_step_on, ceiling_fresh, counts_out}
use Rattle.master.specs.WellFormed.{Sized}
use Rattle.master.proofs.Ready.{Ready, of_ready}
use Rattle.master.proofs.Stays.{ready_next}
use Rattle.master.proofs.Refines as refines
use Rattle.master.proofs.Opening.{fresh_is, fresh_ready, filled_length}
use Rattle.master.proofs.Delivered.{machine_bound}
use Rattle.strip.specs.Machine.{BusMachine, fresh_bus, Sent, mix_of, mixed_step, bus_step, bus_resting}
use Rattle.strip.specs.Kept.{BusIn, bus_on, plate_in, ceiling_in, bus_of, mixed_step_on, bus_step_on, bus_formed, opened_bus, bus_resting_on, BusLong}
use Rattle.strip.specs.Promise.{delivered_need}
use Rattle.strip.proofs.Sizes.{plate_sized, samples_sized, counts_sized}

-- ---- the stages' parts of a bus that is put together of them

module _ (r : Rate) (p : PlateIn) (c : CeilingIn) (long : length p.part ≡ plate_samples r.plate) where
  pub plate_of : plate_in r (bus_of p c) ≡ p
  plate_of = rw (take_at p.part c.samples (plate_samples r.plate) long)

  pub ceiling_of : ceiling_in r (bus_of p c) ≡ c
  ceiling_of = rw (drop_at p.part c.samples (plate_samples r.plate) long)

-- a bus is put together of its parts
pub bus_whole : (r : Rate) (b : BusIn) → bus_of (plate_in r b) (ceiling_in r b) ≡ b
bus_whole r b = ap (λ (l : List Float). bus_on b.bus l b.counts) (take-append-drop (plate_samples r.plate) b.samples)

pub plate_long : (r : Rate) (b : BusIn) → BusLong r b → length (plate_in r b).part ≡ plate_samples r.plate
plate_long r b l = lib.Seq.length-take-le (plate_samples r.plate) b.samples (omega (arith, l.samples))

pub ceiling_sized : (r : Rate) (b : BusIn) → BusLong r b → Sized r.ceiling (ceiling_in r b).samples (ceiling_in r b).counts
ceiling_sized r b l = record { room = rw length-drop (omega (arith, l.samples)); rooms = omega (arith, l.counts) }

-- a sample leaves them as long as they were
pub bus_sized : (r : Rate) (n : ℕ) (b : BusIn) (s : Sent) → BusLong r b → BusLong r (bus_step_on r n b s).next
unfolding bus_step_on mixed_step_on
bus_sized r n b s l =
    let p = plate_long r b l in
    let f = mixed_step_on r.plate n (plate_in r b) s in
    let h = ceiling_step_on r.ceiling n (ceiling_in r b) f.out in
    let e = plate_sized r.plate n (plate_in r b) s.sent in
    let q = samples_sized r.ceiling n (ceiling_in r b) f.out in
    let i = length-drop (plate_samples r.plate) b.samples in
    record {
      samples = length-append f.next.part h.next.samples ∙ omega (arith, l.samples);
      counts = counts_sized r.ceiling n (ceiling_in r b) f.out ∙ l.counts;
    }

-- ---- a block: sample by sample over the bus is stage by stage over its parts

module _ (r : Rate) where
  abbrev mix : Stage PlateIn Sent Frame
  mix = mixed_step_on r.plate

  abbrev limit : Stage CeilingIn Frame Heard
  limit = ceiling_step_on r.ceiling

  glue : ℕ → PlateIn × CeilingIn → BusIn
  glue n u = bus_of u.0 u.1

  long_keeps : (e n : ℕ) (u : PlateIn × CeilingIn) (s : Sent) → n < e → length u.0.part ≡ plate_samples r.plate → length (both mix limit n u s).next.0.part ≡ plate_samples r.plate
  unfolding mixed_step_on
  long_keeps e n u s h l = plate_sized r.plate n u.0 s.sent ∙ l

  glue_same : (e n : ℕ) (u : PlateIn × CeilingIn) (s : Sent) → n < e → length u.0.part ≡ plate_samples r.plate
      → bus_step_on r n (glue n u) s ≡ record { next = glue (n + 1) (both mix limit n u s).next; out = (both mix limit n u s).out }
  unfolding glue bus_step_on
  glue_same e n u s h l = rw (plate_of r u.0 u.1 l, ceiling_of r u.0 u.1 l)

  module _ (n : ℕ) (p : PlateIn) (c : CeilingIn) (l : length p.part ≡ plate_samples r.plate) (ss : List Sent) where
    pub bus_ran : ran (bus_step_on r) n (bus_of p c) ss ≡ bus_of (ran mix n p ss) (ran limit n c (outs mix n p ss))
    unfolding glue
    bus_ran =
        ran_carried (both mix limit) (bus_step_on r) glue (n + length ss) (λ m u. length u.0.part ≡ plate_samples r.plate) (long_keeps (n + length ss)) (glue_same (n + length ss)) n (p, c) ss (omega arith) l
        ∙ ap (glue (n + length ss)) (ran_both mix limit n p c ss)

    pub bus_outs : outs (bus_step_on r) n (bus_of p c) ss ≡ outs limit n c (outs mix n p ss)
    unfolding glue
    bus_outs =
        outs_carried (both mix limit) (bus_step_on r) glue (n + length ss) (λ m u. length u.0.part ≡ plate_samples r.plate) (long_keeps (n + length ss)) (glue_same (n + length ss)) n (p, c) ss (omega arith) l
        ∙ outs_both mix limit n p c ss

-- ---- beside the machine's bus

pub record BusStands (r : Rate) (n : ℕ) (m : BusMachine) (b : BusIn) : Type 0 where
  pub plate : PlateHolds r.plate n m.plate (plate_in r b)
  pub ceiling : refines.Holds r.ceiling n m.ceiling (ceiling_in r b)
  -- what refusal 4 asks
  pub ready : Ready r.ceiling (ceiling_in r b)
  pub long : BusLong r b

mixed_relates : (r : PlateRate) → PlateUsable r → Relates (PlateHolds r) (mixed_step r) (mixed_step_on r)
unfolding mixed_step mixed_step_on
mixed_relates r u =
    record {
      keeps = λ n m p s h. (plate_relates r u).keeps n m p s.sent h;
      same = λ n m p s h. ap (mix_of s.dry) ((plate_relates r u).same n m p s.sent h);
    }

module _ (r : Rate) (u : RateUsable r) (n : ℕ) (m : BusMachine) (b : BusIn) (s : Sent) (g : BusStands r n m b) where
  abbrev relation : ℕ → PlateMachine × CeilingMachine → PlateIn × CeilingIn → Type 0
  relation = Both (PlateHolds r.plate) (refines.Holds r.ceiling)

  related : Relates relation (both (mixed_step r.plate) (ceiling_step r.ceiling)) (both (mixed_step_on r.plate) (ceiling_step_on r.ceiling))
  related = relates_both _ _ _ _ _ _ (mixed_relates r.plate u.plate) (refines.ceiling_relates r.ceiling u.ceiling)

  bus_same : (bus_step r n m s).out ≡ (bus_step_on r n b s).out
  unfolding bus_step bus_step_on
  bus_same = related.same n (m.plate, m.ceiling) (plate_in r b, ceiling_in r b) s (g.plate, g.ceiling)

  abbrev f : Step PlateIn Frame
  f = mixed_step_on r.plate n (plate_in r b) s

  abbrev h : Step CeilingIn Heard
  h = ceiling_step_on r.ceiling n (ceiling_in r b) f.out

  next_long : length f.next.part ≡ plate_samples r.plate
  unfolding mixed_step_on
  next_long = plate_sized r.plate n (plate_in r b) s.sent ∙ plate_long r b g.long

  holds_next : relation (n + 1) ((bus_step r n m s).next.plate, (bus_step r n m s).next.ceiling) (f.next, h.next)
  unfolding bus_step
  holds_next = related.keeps n (m.plate, m.ceiling) (plate_in r b, ceiling_in r b) s (g.plate, g.ceiling)

  bus_keeps : BusStands r (n + 1) (bus_step r n m s).next (bus_step_on r n b s).next
  unfolding bus_step_on
  bus_keeps =
      record {
        plate = subst⁻¹ (PlateHolds r.plate (n + 1) (bus_step r n m s).next.plate) (plate_of r f.next h.next next_long) holds_next.0;
        ceiling = subst⁻¹ (refines.Holds r.ceiling (n + 1) (bus_step r n m s).next.ceiling) (ceiling_of r f.next h.next next_long) holds_next.1;
        ready = subst⁻¹ (Ready r.ceiling) (ceiling_of r f.next h.next next_long) (ready_next r.ceiling u.ceiling n (ceiling_in r b) f.out g.ready);
        long = bus_sized r n b s g.long;
      }

pub bus_relates : (r : Rate) → RateUsable r → Relates (BusStands r) (bus_step r) (bus_step_on r)
bus_relates r u = record { keeps = bus_keeps r u; same = bus_same r u }

-- refusal 4 declines none
true_of : (b : Bool) → T b → b ≡ true
true_of true t = refl
true_of false t = absurd t

pub bus_formed_lem : (r : Rate) (n : ℕ) (m : BusMachine) (b : BusIn) → BusStands r n m b → bus_formed r b ≡ true
unfolding bus_formed
bus_formed_lem r n m b g = true_of _ (of_ready r.ceiling (ceiling_in r b) g.ready)

-- the rest answer
pub bus_rests : (r : Rate) → RateUsable r → (n : ℕ) (m : BusMachine) (b : BusIn) → BusStands r n m b → bus_resting m ≡ bus_resting_on r b.bus b.samples
unfolding bus_resting bus_resting_on
bus_rests r u n m b g = plate_rest r.plate u.plate n m.plate (plate_in r b) g.plate

-- ---- what open leaves

module _ (r : Rate) (u : RateUsable r) (samples : List Float) (counts : List ℕ) (long : length samples ≡ bus_samples r) (wide : length counts ≡ bus_counts r) where
  abbrev quiet : PlateIn
  quiet = plate_on (fresh_on r.plate) (replicate (plate_samples r.plate) nought)

  abbrev fresh : CeilingIn
  fresh = ceiling_fresh r.ceiling (drop (plate_samples r.plate) samples) counts

  sized : Sized r.ceiling (drop (plate_samples r.plate) samples) counts
  sized = record { room = rw length-drop (omega arith); rooms = omega arith }

  opened_long : BusLong r (bus_of quiet fresh)
  unfolding ceiling_fresh
  opened_long =
      let a = length-append quiet.part fresh.samples in
      let b = length-replicate (plate_samples r.plate) nought in
      let c : length fresh.samples ≡ length (drop (plate_samples r.plate) samples) = filled_length (drop (plate_samples r.plate) samples) 0 _ _ in
      let e = length-drop (plate_samples r.plate) samples in
      record { samples = omega arith; counts = filled_length _ _ _ _ ∙ filled_length counts 0 _ _ ∙ wide }

  pub bus_opens : BusStands r 0 (fresh_bus r) (opened_bus r samples counts)
  unfolding fresh_bus opened_bus
  bus_opens =
      let q = length-replicate (plate_samples r.plate) nought in
      let f = fresh_is r.ceiling (drop (plate_samples r.plate) samples) counts sized in
      record {
        plate = subst⁻¹ (PlateHolds r.plate 0 (fresh_plate r.plate)) (plate_of r quiet fresh q) (plate_fresh r.plate u.plate 0);
        ceiling = subst⁻¹ (refines.Holds r.ceiling 0 fresh_machine) (ceiling_of r quiet fresh q) (refines.fresh_holds r.ceiling u.ceiling fresh f);
        ready = subst⁻¹ (Ready r.ceiling) (ceiling_of r quiet fresh q) (fresh_ready r.ceiling u.ceiling fresh f);
        long = opened_long;
      }

-- ---- the gain bound, over whatever is sent: a corollary of the ceiling's

-- what a bus delivers is what its ceiling gives for the mixed frames
pub bus_heard : (r : Rate) (ss : List Sent) (n : ℕ) (b : BusMachine) → outs (bus_step r) n b ss ≡ outs (ceiling_step r.ceiling) n b.ceiling (outs (mixed_step r.plate) n b.plate ss)
unfolding outs bus_step
bus_heard r [] n b = refl
bus_heard r (s ∷ ss) n b = ap (λ (l : List Heard). (bus_step r n b s).out ∷ l) (bus_heard r ss (n + 1) (bus_step r n b s).next)

module _ (r : Rate) (u : RateUsable r) (ss : List Sent) where
  abbrev mixed : List Frame
  mixed = outs (mixed_step r.plate) 0 (fresh_bus r).plate ss

  abbrev heard : List Heard
  heard = outs (bus_step r) 0 (fresh_bus r) ss

  pub bus_bounded : (i : ℕ) → i < length (counts_out heard) → r.ceiling.ahead ≤ i → get_or (counts_out heard) i 0 ≤ suc r.ceiling.ahead * step_of (delivered_need r mixed i)
  unfolding delivered_need fresh_bus
  bus_bounded i h k =
      let e : heard ≡ outs (ceiling_step r.ceiling) 0 fresh_machine mixed = bus_heard r ss 0 (fresh_bus r) in
      let m : length (counts_out heard) ≡ length heard = length-map heard (λ (v : Heard). v.count) in
      let n : i < length mixed = omega (arith, m, ap length e, outs_length (ceiling_step r.ceiling) 0 fresh_machine mixed) in
      let nothing : Heard = record { left = nought; right = nought; count = 0 } in
      let c : get_or (counts_out heard) i 0 ≡ (get_or (outs (ceiling_step r.ceiling) 0 fresh_machine mixed) i nothing).count =
      ap (λ (l : List Heard). get_or (counts_out l) i 0) e ∙ get_or-map (λ (v : Heard). v.count) (outs (ceiling_step r.ceiling) 0 fresh_machine mixed) i nothing in
      rw c (machine_bound r.ceiling u.ceiling mixed i nothing n k)
