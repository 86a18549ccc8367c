-- The lane: put together of its tape and its lists, over a block, and beside the machine's. Assumes nothing.
use mathlib.Core.Path.{◌≡◌, refl, sym, ap, subst, subst⁻¹, ◌∙◌}
use mathlib.Core.Bool.{Bool, true, false, cond}
use Prim.Native.Nat.{ℕ, ◌+◌, ◌<◌, ◌≤◌}
use native.Mathlib.Omega.{arith}
use mathlib.Core.List.{List, ◌++◌, map}
use lib.ListN.{length, take, drop, replicate, length-append, length-drop, length-replicate, take-append-drop}
use lib.Seq.{take_at, drop_at, take-append_seam, length-take-le, length_front}
use lib.Ieee.{Float, eq}
use borrow.Author.Tests.{le-leb}
use Rattle.casts.specs.Arithmetic.{nought}
use Rattle.ranges.specs.Ranges.{most_points, most_kicks, last_position, rising_from}
use Rattle.stage.specs.Stage.{Step, Stage, ran, outs, mapped, over}
use Rattle.stage.proofs.Laws.{Relates, ran_carried, outs_carried, ran_mapped, outs_mapped}
use Rattle.ramp.specs.declared.Ramp.{Ramp}
use Rattle.ramp.specs.declared.Shape.TheVariants.{Linear}
use Rattle.ramp.specs.Ramp.{held, toward, ramp_at}
use Rattle.rate.specs.declared.Rate.{Rate}
use Rattle.rate.specs.Rate.{RateUsable}
use Rattle.rate.specs.Stores.{warp_samples, lane_samples, lane_counts}
use Rattle.duck.specs.Cursors.{duck_counts, kicks_in, laid}
use Rattle.duck.proofs.Loops.{laid_length, laid_kicks}
use Rattle.tape.specs.Tape.{Lists, tape_step, fresh_tape_machine}
use Rattle.tape.specs.Kept.{TapeIn, tape_on, tape_step_on, fresh_tape}
use Rattle.tape.proofs.Related.{TapeHolds, tape_relates, tape_fresh, tape_untuned, tape_rest, tape_formed, ring_sized, counts_sized}
use Rattle.strip.specs.declared.Setup.{Setup}
use Rattle.strip.specs.declared.Controls.{Controls}
use Rattle.strip.specs.declared.Lane.{Lane}
use Rattle.strip.specs.Refusals.{ok_setup, ok_points, ok_ramp}
use Rattle.strip.specs.Machine.{LaneMachine, fresh_lane, Sent, sent_at, lane_step, lane_latched, lane_resting}
use Rattle.strip.specs.Kept.{lists_of, LaneIn, lane_on, tape_in, values_room, positions_room, lists_in, lane_of, lane_step_on, lane_formed, opened_lane, lane_latched_on, lane_resting_on, LaneLong}

-- ---- the tape's parts of a lane that is put together of them

-- how long they are
pub record TapeLong (r : Rate) (t : TapeIn) : Type 0 where
  pub ring : length t.ring ≡ warp_samples r.tape
  pub counts : length t.counts ≡ duck_counts

module _ (r : Rate) (k : Lane) (values : List Float) (positions : List ℕ) (t : TapeIn) (long : TapeLong r t) where
  pub tape_of_lem : tape_in r (lane_of k values positions t) ≡ t
  tape_of_lem = rw (take_at t.ring values (warp_samples r.tape) long.ring, take_at t.counts positions duck_counts long.counts)

  pub values_of : values_room r (lane_of k values positions t) ≡ values
  values_of = drop_at t.ring values (warp_samples r.tape) long.ring

  pub positions_of_lem : positions_room (lane_of k values positions t) ≡ positions
  positions_of_lem = drop_at t.counts positions duck_counts long.counts

-- a lane is put together of its parts
pub lane_whole : (r : Rate) (k : LaneIn) → lane_of k.lane (values_room r k) (positions_room k) (tape_in r k) ≡ k
lane_whole r k =
    ap (λ (l : List Float). lane_on k.lane l (take duck_counts k.counts ++ drop duck_counts k.counts)) (take-append-drop (warp_samples r.tape) k.samples)
    ∙ ap (lane_on k.lane k.samples) (take-append-drop duck_counts k.counts)

pub tape_long : (r : Rate) (k : LaneIn) → LaneLong r k → TapeLong r (tape_in r k)
tape_long r k l =
    record {
      ring = length-take-le (warp_samples r.tape) k.samples (omega (arith, l.samples));
      counts = length-take-le duck_counts k.counts (omega (arith, l.counts));
    }

-- a sample leaves them as long as they were
pub lane_sized : (r : Rate) (d : Bool) (n : ℕ) (k : LaneIn) (x : Float) → LaneLong r k → LaneLong r (lane_step_on r d n k x).next
unfolding lane_step_on
lane_sized r d n k x l =
    let s = k.lane in
    let y = (tape_step_on r.tape s.setup.tape s.daylight s.rain (lists_in r k) d n (tape_in r k) x).next in
    record {
      samples = length_front k.samples y.ring (warp_samples r.tape) (ring_sized r.tape s.setup.tape s.daylight s.rain (lists_in r k) d n (tape_in r k) x) ∙ l.samples;
      counts = length_front k.counts y.counts duck_counts (counts_sized r.tape s.setup.tape s.daylight s.rain (lists_in r k) d n (tape_in r k) x) ∙ l.counts;
    }

-- ---- a block: sample by sample over the lane is sample by sample over its tape

-- the sweep's points as they lie behind the tape's parts
abbrev pub points_at : Lane → List Float → List ℕ → List ℕ → Lists
points_at k values positions kicks = lists_of (take k.points positions) (take k.points values) kicks

module _ (r : Rate) (k : Lane) (values : List Float) (positions kicks : List ℕ) (d : Bool) where
  abbrev tape : Stage TapeIn Float Float
  tape = tape_step_on r.tape k.setup.tape k.daylight k.rain (points_at k values positions kicks) d

  abbrev sending : Stage TapeIn Float Sent
  sending = mapped tape (sent_at k.setup.send)

  glue : ℕ → TapeIn → LaneIn
  glue n t = lane_of k values positions t

  long_keeps : (e n : ℕ) (t : TapeIn) (x : Float) → n < e → TapeLong r t → TapeLong r (sending n t x).next
  long_keeps e n t x h l =
      record {
        ring = ring_sized r.tape k.setup.tape k.daylight k.rain (points_at k values positions kicks) d n t x ∙ l.ring;
        counts = counts_sized r.tape k.setup.tape k.daylight k.rain (points_at k values positions kicks) d n t x ∙ l.counts;
      }

  -- the kicks are no matter to the kept tape
  kicks_free : (n : ℕ) (t : TapeIn) (x : Float) (others : List ℕ) → tape_step_on r.tape k.setup.tape k.daylight k.rain (points_at k values positions others) d n t x ≡ tape n t x
  unfolding tape_step_on
  kicks_free n t x others = refl

  glue_same : (e n : ℕ) (t : TapeIn) (x : Float) → n < e → TapeLong r t → lane_step_on r d n (glue n t) x ≡ record { next = glue (n + 1) (sending n t x).next; out = (sending n t x).out }
  unfolding glue lane_step_on
  glue_same e n t x h l = rw (tape_of_lem r k values positions t l, values_of r k values positions t l, positions_of_lem r k values positions t l, kicks_free n t x _)

  module _ (n : ℕ) (t : TapeIn) (l : TapeLong r t) (xs : List Float) where
    pub lane_ran : ran (lane_step_on r d) n (lane_of k values positions t) xs ≡ lane_of k values positions (ran tape n t xs)
    unfolding glue
    lane_ran =
        ran_carried sending (lane_step_on r d) glue (n + length xs) (λ m u. TapeLong r u) (long_keeps (n + length xs)) (glue_same (n + length xs)) n t xs (omega arith) l
        ∙ ap (lane_of k values positions) (ran_mapped tape (sent_at k.setup.send) n t xs)

    pub lane_outs : outs (lane_step_on r d) n (lane_of k values positions t) xs ≡ map (sent_at k.setup.send) (outs tape n t xs)
    unfolding glue
    lane_outs =
        outs_carried sending (lane_step_on r d) glue (n + length xs) (λ m u. TapeLong r u) (long_keeps (n + length xs)) (glue_same (n + length xs)) n t xs (omega arith) l
        ∙ outs_mapped tape (sent_at k.setup.send) n t xs

-- ---- beside the machine's lane

pub record LaneStands (r : Rate) (n : ℕ) (m : LaneMachine) (k : LaneIn) : Type 0 where
  pub setup : m.setup ≡ k.lane.setup
  pub daylight : m.daylight ≡ k.lane.daylight
  pub rain : m.rain ≡ k.lane.rain
  pub lists : m.lists ≡ lists_in r k
  pub tape : TapeHolds r.tape m.setup.tape m.daylight m.lists n m.tape (tape_in r k)
  pub long : LaneLong r k
  -- what refusal 4 asks
  pub graded : ok_ramp m.daylight ≡ true
  pub rained : ok_ramp m.rain ≡ true
  pub ranged : ok_setup m.setup ≡ true
  pub few : k.lane.points ≤ most_points
  pub pointed : ok_points m.lists.positions m.lists.values ≡ true

listed : (a b : Lists) → a.positions ≡ b.positions → a.values ≡ b.values → a.kicks ≡ b.kicks → a ≡ b
listed a b e f g =
    ap (λ (p : List ℕ). lists_of p a.values a.kicks) e ∙ ap (λ (v : List Float). lists_of b.positions v a.kicks) f ∙ ap (lists_of b.positions b.values) g

-- one sample
module _ (r : Rate) (u : RateUsable r) (d : Bool) (n : ℕ) (m : LaneMachine) (k : LaneIn) (x : Float) (g : LaneStands r n m k) where
  abbrev before : TapeIn
  before = tape_in r k

  -- the kept tape's step, in the machine's words
  abbrev y : Step TapeIn Float
  y = tape_step_on r.tape m.setup.tape m.daylight m.rain m.lists d n before x

  abbrev next : LaneIn
  next = lane_of k.lane (values_room r k) (positions_room k) y.next

  step_is : lane_step_on r d n k x ≡ record { next = next; out = sent_at m.setup.send y.out }
  unfolding lane_step_on
  step_is = rw (g.setup, g.daylight, g.rain, g.lists)

  related : Relates (TapeHolds r.tape m.setup.tape m.daylight m.lists) (tape_step r.tape m.setup.tape m.daylight m.rain m.lists d) (tape_step_on r.tape m.setup.tape m.daylight m.rain m.lists d)
  related = tape_relates r.tape u.tape m.setup.tape m.daylight m.rain m.lists d

  lane_same : (lane_step r d n m x).out ≡ (lane_step_on r d n k x).out
  unfolding lane_step
  lane_same = ap (sent_at m.setup.send) (related.same n m.tape before x g.tape) ∙ sym (ap (λ (o : Step LaneIn Sent). o.out) step_is)

  next_long : TapeLong r y.next
  next_long =
      let l = tape_long r k g.long in
      record {
        ring = ring_sized r.tape m.setup.tape m.daylight m.rain m.lists d n before x ∙ l.ring;
        counts = counts_sized r.tape m.setup.tape m.daylight m.rain m.lists d n before x ∙ l.counts;
      }

  t_of : tape_in r next ≡ y.next
  t_of = tape_of_lem r k.lane (values_room r k) (positions_room k) y.next next_long

  holds_next : TapeHolds r.tape m.setup.tape m.daylight m.lists (n + 1) (lane_step r d n m x).next.tape y.next
  unfolding lane_step
  holds_next = related.keeps n m.tape before x g.tape

  lists_next : m.lists ≡ lists_in r next
  lists_next =
      let v = values_of r k.lane (values_room r k) (positions_room k) y.next next_long in
      let p = positions_of_lem r k.lane (values_room r k) (positions_room k) y.next next_long in
      let c : kicks_in y.next.tape.duck.count y.next.counts ≡ m.lists.kicks = holds_next.duck.kept in
      listed m.lists (lists_in r next)
      (ap (λ (l : Lists). l.positions) g.lists ∙ sym (ap (take k.lane.points) p))
      (ap (λ (l : Lists). l.values) g.lists ∙ sym (ap (take k.lane.points) v))
      (sym (ap (λ (w : TapeIn). kicks_in y.next.tape.duck.count w.counts) t_of ∙ c))

  lane_keeps : LaneStands r (n + 1) (lane_step r d n m x).next (lane_step_on r d n k x).next
  lane_keeps = subst⁻¹ (λ (o : Step LaneIn Sent). LaneStands r (n + 1) (lane_step r d n m x).next o.next) step_is stands
    where
      stands : LaneStands r (n + 1) (lane_step r d n m x).next next
      stands =
          record {
            setup = unfold lane_step in g.setup;
            daylight = unfold lane_step in g.daylight;
            rain = unfold lane_step in g.rain;
            lists = unfold lane_step in lists_next;
            tape = subst⁻¹ (λ (w : TapeIn). TapeHolds r.tape (lane_step r d n m x).next.setup.tape (lane_step r d n m x).next.daylight (lane_step r d n m x).next.lists (n + 1) (lane_step r d n m x).next.tape w) t_of (unfold lane_step in holds_next);
            long = subst (λ (o : Step LaneIn Sent). LaneLong r o.next) step_is (lane_sized r d n k x g.long);
            graded = unfold lane_step in g.graded;
            rained = unfold lane_step in g.rained;
            ranged = unfold lane_step in g.ranged;
            few = g.few;
            pointed = unfold lane_step in g.pointed;
          }

pub lane_relates : (r : Rate) → RateUsable r → (d : Bool) → Relates (LaneStands r) (lane_step r d) (lane_step_on r d)
lane_relates r u d = record { keeps = lane_keeps r u d; same = lane_same r u d }

-- refusal 4 declines none
pub lane_formed_lem : (r : Rate) (n : ℕ) (m : LaneMachine) (k : LaneIn) → LaneStands r n m k → lane_formed r k ≡ true
unfolding lane_formed
lane_formed_lem r n m k g =
    let a : ok_ramp k.lane.daylight ≡ true = subst (λ (v : Ramp). ok_ramp v ≡ true) g.daylight g.graded in
    let b : ok_ramp k.lane.rain ≡ true = subst (λ (v : Ramp). ok_ramp v ≡ true) g.rain g.rained in
    let c : ok_setup k.lane.setup ≡ true = subst (λ (v : Setup). ok_setup v ≡ true) g.setup g.ranged in
    let e : ok_points (lists_in r k).positions (lists_in r k).values ≡ true = subst (λ (v : Lists). ok_points v.positions v.values ≡ true) g.lists g.pointed in
    rw (a, b, c, le-leb _ _ g.few, e) (tape_formed r.tape _ _ _ _ _ (tape_in r k) g.tape)

-- latch
moved_ok : (v : Ramp) (n : ℕ) (to : Float) (len : ℕ) → ok_ramp v ≡ true → n ≤ last_position → len ≤ last_position → ok_ramp (toward v n to len) ≡ true
unfolding toward ok_ramp
moved_ok v n to len e h k = by (eq v.to to)
  where
    by : (b : Bool) → ok_ramp (cond b v (record { from = ramp_at v n; to = to; start = n; len = len; shape = v.shape })) ≡ true
    by true = e
    by false = rw (le-leb _ _ h, le-leb _ _ k)

pub lane_latches : (r : Rate) (n : ℕ) (m : LaneMachine) (k : LaneIn) → LaneStands r n m k → n ≤ last_position → (c : Controls) → c.grading ≤ last_position → c.darkening ≤ last_position
    → LaneStands r n (lane_latched n m c) (lane_on (lane_latched_on n k.lane c) k.samples k.counts)
unfolding lane_latched lane_latched_on
lane_latches r n m k g h c a b =
    record {
      setup = g.setup;
      daylight = rw g.daylight;
      rain = rw g.rain;
      lists = g.lists;
      tape = tape_untuned r.tape m.setup.tape m.daylight _ m.lists n m.tape (tape_in r k) g.tape;
      long = record { samples = g.long.samples; counts = g.long.counts };
      graded = moved_ok m.daylight n c.daylight c.grading g.graded h a;
      rained = moved_ok m.rain n c.rain c.darkening g.rained h b;
      ranged = g.ranged;
      few = g.few;
      pointed = g.pointed;
    }

-- the rest answer
pub lane_rests : (r : Rate) → RateUsable r → (n : ℕ) (m : LaneMachine) (k : LaneIn) → LaneStands r n m k → lane_resting m ≡ lane_resting_on r k.lane k.samples
unfolding lane_resting lane_resting_on
lane_rests r u n m k g = tape_rest r.tape u.tape _ _ _ n m.tape (tape_in r k) g.tape

-- ---- what open leaves

module _ (r : Rate) (u : RateUsable r) (s : Setup) (l : Lists) (samples : List Float) (counts : List ℕ)
    (long : length samples ≡ lane_samples r) (wide : length counts ≡ lane_counts) (ranged : ok_setup s ≡ true) (pointed : ok_points l.positions l.values ≡ true)
    (few : length l.positions ≤ most_points) (paired : length l.positions ≡ length l.values) (kicks : length l.kicks ≤ most_kicks) (risen : rising_from 0 l.kicks ≡ true) where
  abbrev lane : Lane
  lane =
      record {
        setup = s;
        points = length l.positions;
        daylight = held s.daylight Linear;
        rain = held s.rain Linear;
        tape = fresh_tape r.tape (length l.kicks);
      }

  abbrev fresh : TapeIn
  fresh = tape_on (fresh_tape r.tape (length l.kicks)) (replicate (warp_samples r.tape) nought) (laid l.kicks (take duck_counts counts)).part

  abbrev values : List Float
  values = over l.values (drop (warp_samples r.tape) samples)

  abbrev positions : List ℕ
  positions = over l.positions (drop duck_counts counts)

  opened_is : opened_lane r s l samples counts ≡ lane_of lane values positions fresh
  unfolding opened_lane
  opened_is = refl

  ducks : length (take duck_counts counts) ≡ duck_counts
  ducks = length-take-le duck_counts counts (omega arith)

  fresh_long : TapeLong r fresh
  fresh_long =
      record {
        ring = length-replicate (warp_samples r.tape) nought;
        counts = laid_length l.kicks (take duck_counts counts) kicks (omega (arith, ducks)) ∙ ducks;
      }

  opened_long : LaneLong r (lane_of lane values positions fresh)
  opened_long =
      let f = fresh_long in
      let a = length-append fresh.ring values in
      let b = length-append l.values (drop (length l.values) (drop (warp_samples r.tape) samples)) in
      let c = length-drop (length l.values) (drop (warp_samples r.tape) samples) in
      let e = length-drop (warp_samples r.tape) samples in
      let h = length-append fresh.counts positions in
      let i = length-append l.positions (drop (length l.positions) (drop duck_counts counts)) in
      let j = length-drop (length l.positions) (drop duck_counts counts) in
      let q = length-drop duck_counts counts in
      record { samples = omega (arith, f.ring); counts = omega (arith, f.counts) }

  t_fresh : tape_in r (lane_of lane values positions fresh) ≡ fresh
  t_fresh = tape_of_lem r lane values positions fresh fresh_long

  lists_first : l ≡ lists_in r (lane_of lane values positions fresh)
  unfolding fresh_tape
  lists_first =
      listed l (lists_in r (lane_of lane values positions fresh))
      (sym (ap (take (length l.positions)) (positions_of_lem r lane values positions fresh fresh_long) ∙ take-append_seam l.positions _))
      (sym (ap (take (length l.positions)) (values_of r lane values positions fresh fresh_long) ∙ take_at l.values _ (length l.positions) (sym paired)))
      (sym (ap (λ (w : TapeIn). kicks_in (length l.kicks) w.counts) t_fresh ∙ laid_kicks l.kicks (take duck_counts counts) kicks (omega (arith, ducks))))

  pub lane_opens : LaneStands r 0 (fresh_lane r s l) (opened_lane r s l samples counts)
  unfolding fresh_lane
  lane_opens = subst⁻¹ (LaneStands r 0 (fresh_lane r s l)) opened_is stands
    where
      stands : LaneStands r 0 (fresh_lane r s l) (lane_of lane values positions fresh)
      stands =
          record {
            setup = refl;
            daylight = refl;
            rain = refl;
            lists = lists_first;
            tape =
                subst⁻¹ (TapeHolds r.tape s.tape (held s.daylight Linear) l 0 (fresh_tape_machine r.tape l.kicks)) t_fresh
                (tape_fresh r.tape u.tape s.tape (held s.daylight Linear) l (take duck_counts counts) kicks (omega (arith, ducks)) risen);
            long = opened_long;
            graded = unfold ok_ramp held in refl;
            rained = unfold ok_ramp held in refl;
            ranged = ranged;
            few = few;
            pointed = pointed;
          }
