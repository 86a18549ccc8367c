-- The ceiling as the code keeps it gives, for every list of frames, what the machine's gives. `Holds` says what the struct and the stores hold of the machine's past. Assumes nothing.
use Rattle.std.proofs.Common.{◌≡◌, ℕ, zero, suc, ◌+◌, ◌-◌, ◌*◌, ◌%◌, ◌<◌, List, [], ◌∷◌, length, get_or, take, set, sym, refl, ap, ◌∙◌, add_assoc, mod-lt, suc-mul, add_comm, add-one, arith, length-set, get_or-set_other, get_or-set_same}
use lib.Ieee.{Float, nan, le}
use Rattle.casts.specs.Arithmetic.{◌⊗◌, nought, one}
use Rattle.casts.specs.Order.{le_trans_any}
use Rattle.casts.specs.Least.{min_f}
use Rattle.casts.specs.Step.{step_of}
use Rattle.stage.specs.Stage.{outs}
use Rattle.stage.proofs.Laws.{Relates, related_outs, relates_mapped}
use Rattle.rate.specs.declared.CeilingRate.{CeilingRate}
use Rattle.rate.specs.Ceiling.{unit, Usable}
use Rattle.stream.specs.declared.Frame.{Frame}
use Rattle.master.specs.Ceiling.{silence, need_of, least, least_of, held_of, last_of, total, CeilingMachine, fresh_machine, released_of, taken, count_of, late_of, multiplied, multiplied_step, delivered, ceiling_step}
use Rattle.master.specs.Kept.{CeilingIn, places_of, staying, slot, needs_after, numbers_after, head_after, len_after, released_after, step_place, late_place, late_at, multiplied_step_on, ceiling_step_on}
use Rattle.master.specs.WellFormed.{Sized}
use Rattle.master.proofs.Rings.{place, Rings, ring_oldest, ring_push, Queued}
use Rattle.master.proofs.Sliding.{queue_of, Turned, turned}

-- ---- the stores by their parts
abbrev entry_at : List Float → List ℕ → ℕ → ℕ × Float
entry_at samples counts i = (get_or counts i 0, get_or samples i nan)

abbrev step_at : ℕ → List ℕ → ℕ → ℕ
step_at P counts j = get_or counts (P + j) 0

-- the frame n is the next
pub record Holds (r : CeilingRate) (n : ℕ) (p : CeilingMachine) (k : CeilingIn) : Type 0 where
  -- as many needs, steps and frames as were heard
  pub number : n ≡ length p.needs
  pub as_steps : length p.steps ≡ length p.needs
  pub as_frames : length p.frames ≡ length p.needs
  pub sized : Sized r k.samples k.counts
  -- the queue: the frames of the window whose need no later one undercuts or equals
  pub at_head : k.ceiling.head < places_of r
  pub queue_length : k.ceiling.len ≡ length (queue_of le r.window p.needs)
  pub queue : Queued (entry_at k.samples k.counts) (places_of r) k.ceiling.head (queue_of le r.window p.needs)
  pub released : k.ceiling.released ≡ p.released
  pub counted : k.ceiling.count ≡ count_of r p
  pub steps : Rings (step_at (places_of r) k.counts) (r.ahead + 1) unit p.steps
  pub late : Rings (late_at (places_of r) k.samples) r.ahead silence p.frames

-- ---- the running sum
last_more : (k : ℕ) (d : ℕ) (l : List ℕ) → total (last_of (suc k) d l) ≡ total (last_of k d l) + get_or l k d
unfolding total last_of
last_more zero d [] = omega arith
last_more zero d (x ∷ l) = omega arith
last_more (suc k) d [] = ap (λ (n : ℕ). d + n) (last_more k d [] ∙ ap (λ (n : ℕ). total (last_of k d []) + n) refl) ∙ sym (add_assoc d (total (last_of k d [])) d)
last_more (suc k) d (x ∷ l) = ap (λ (n : ℕ). x + n) (last_more k d l) ∙ sym (add_assoc x (total (last_of k d l)) (get_or l k d))

-- one step more, and the oldest less
sum_turn : (k : ℕ) (d s : ℕ) (l : List ℕ) → total (last_of (suc k) d l) - get_or l k d + s ≡ total (last_of (suc k) d (s ∷ l))
unfolding total last_of
sum_turn k d s l = back (total (last_of (suc k) d l)) (total (last_of k d l)) (get_or l k d) s (last_more k d l)
  where
    back : (a b c s : ℕ) → a ≡ b + c → a - c + s ≡ s + b
    back a b c s e = omega arith

-- ---- views of a store after a set
queued_same : {E : Type 0} (at at' : ℕ → E) (P head : ℕ) (q : List E) → 0 < P → ((j : ℕ) → j < P → at' j ≡ at j) → Queued at P head q → Queued at' P head q
queued_same at at' P head [] h o r = tt
queued_same at at' P head (e ∷ q) h o r = (o ((head + length q) % P) (mod-lt (head + length q) h) ∙ r.0, queued_same at at' P head q h o r.1)

pair : {a c : ℕ} {b d : Float} → a ≡ c → b ≡ d → ◌≡◌ {A = ℕ × Float} (a, b) (c, d)
pair {a} {c} {b} {d} p q = ap (λ (x : ℕ). (x, b)) p ∙ ap (λ (y : Float). (c, y)) q

abbrev frame : Float → Float → Frame
frame a b = record { left = a; right = b }

frames : {a c b d : Float} → a ≡ c → b ≡ d → frame a b ≡ frame c d
frames {a} {c} {b} {d} p q = ap (λ (x : Float). frame x b) p ∙ ap (λ (y : Float). frame c y) q

-- a frame stored at the late frames' place m
module _ (P m : ℕ) (s : List Float) (a b : Float) where
  abbrev put : List Float
  put = set (set s (P + 2 * m) a) (P + 2 * m + 1) b

  put_here : P + 2 * m + 1 < length s → late_at P put m ≡ frame a b
  put_here h =
      frames (get_or-set_other (set s (P + 2 * m) a) (P + 2 * m + 1) (P + 2 * m) b nan (λ e. omega arith) ∙ get_or-set_same s (P + 2 * m) a nan (omega arith))
      (get_or-set_same (set s (P + 2 * m) a) (P + 2 * m + 1) b nan (simp length-set h))

  put_there : (j : ℕ) → (j ≡ m → ⊥) → late_at P put j ≡ late_at P s j
  put_there j h =
      frames (get_or-set_other (set s (P + 2 * m) a) (P + 2 * m + 1) (P + 2 * j) b nan (λ e. omega arith) ∙ get_or-set_other s (P + 2 * m) (P + 2 * j) a nan (λ e. h (omega arith)))
      (get_or-set_other (set s (P + 2 * m) a) (P + 2 * m + 1) (P + 2 * j + 1) b nan (λ e. h (omega arith)) ∙ get_or-set_other s (P + 2 * m) (P + 2 * j + 1) a nan (λ e. omega arith))

  put_low : (j : ℕ) → j < P → get_or put j nan ≡ get_or s j nan
  put_low j h = get_or-set_other (set s (P + 2 * m) a) (P + 2 * m + 1) j b nan (λ e. omega arith) ∙ get_or-set_other s (P + 2 * m) j a nan (λ e. omega arith)

-- a store below P is not seen by the late frames, nor by the steps
late_low : (P at : ℕ) (s : List Float) (v : Float) (j : ℕ) → at < P → late_at P (set s at v) j ≡ late_at P s j
late_low P at s v j h = frames (get_or-set_other s at (P + 2 * j) v nan (λ e. omega arith)) (get_or-set_other s at (P + 2 * j + 1) v nan (λ e. omega arith))

step_low : (P at : ℕ) (s : List ℕ) (v : ℕ) (j : ℕ) → at < P → step_at P (set s at v) j ≡ step_at P s j
step_low P at s v j h = get_or-set_other s at (P + j) v 0 (λ e. omega arith)

module _ (r : CeilingRate) (n : ℕ) (p : CeilingMachine) (k : CeilingIn) (f : Frame) (w : ℕ) (wide : r.window ≡ suc w) (ahead_pos : 0 < r.ahead) (holds : Holds r n p k) where
  slot_lt : slot r k (need_of r f) < places_of r
  slot_lt = mod-lt (k.ceiling.head + staying r k (need_of r f)) (omega arith)

  queue_turn : Turned le r.window (places_of r) (need_of r f ∷ p.needs) (entry_at (needs_after r k (need_of r f)) (numbers_after r n k (need_of r f)))
      (head_after r n k (need_of r f)) (len_after r n k (need_of r f)) (least le (need_of r f) (take w p.needs))
  unfolding head_after len_after
  queue_turn =
      let at = slot r k (need_of r f) in
      turned le le_trans_any r.window w (places_of r) (n) k.ceiling.head k.ceiling.len (staying r k (need_of r f)) (need_of r f) p.needs
      (entry_at k.samples k.counts) (entry_at (needs_after r k (need_of r f)) (numbers_after r n k (need_of r f)))
      wide refl holds.at_head holds.number holds.queue_length holds.queue refl
      (pair (get_or-set_same k.counts at (n) 0 (omega (arith, slot_lt, holds.sized.rooms))) (get_or-set_same k.samples at (need_of r f) nan (omega (arith, slot_lt, holds.sized.room))))
      (λ j h ne. pair (get_or-set_other k.counts at j (n) 0 ne) (get_or-set_other k.samples at j (need_of r f) nan ne))

  -- the released gain
  held_is : held_of r (need_of r f ∷ p.needs) ≡ least le (need_of r f) (take w p.needs)
  unfolding held_of least_of
  held_is = rw wide

  released_is : released_after r n k (need_of r f) ≡ (taken r p f).released
  unfolding released_after taken released_of
  released_is =
      ap (λ (x : Float). min_f x (k.ceiling.released ⊗ r.rise)) (queue_turn.held ∙ sym held_is)
      ∙ ap (λ (x : Float). min_f (held_of r (need_of r f ∷ p.needs)) (x ⊗ r.rise)) holds.released

  -- the count
  oldest_step : get_or (numbers_after r n k (need_of r f)) (step_place r n) 0 ≡ get_or p.steps r.ahead unit
  oldest_step =
      step_low (places_of r) (slot r k (need_of r f)) k.counts (n) (n % (r.ahead + 1)) slot_lt
      ∙ ap (λ (m : ℕ). step_at (places_of r) k.counts (m % (r.ahead + 1))) (holds.number ∙ sym holds.as_steps)
      ∙ ring_oldest (step_at (places_of r) k.counts) (r.ahead + 1) unit p.steps r.ahead (add-one r.ahead) holds.steps

  count_is : k.ceiling.count - get_or (numbers_after r n k (need_of r f)) (step_place r n) 0 + step_of (released_after r n k (need_of r f)) ≡ count_of r (taken r p f)
  unfolding count_of taken
  count_is = rw (released_is, oldest_step, holds.counted) (sum_turn r.ahead unit (step_of (taken r p f).released) p.steps)

  -- the late frame
  late_is : late_at (places_of r) (needs_after r k (need_of r f)) (n % r.ahead) ≡ late_of r (taken r p f)
  unfolding late_of taken
  late_is =
      let a = r.ahead - 1 in
      let e : r.ahead ≡ suc a = omega arith in
      late_low (places_of r) (slot r k (need_of r f)) k.samples (need_of r f) (n % r.ahead) slot_lt
      ∙ ap (λ (m : ℕ). late_at (places_of r) k.samples (m % r.ahead)) (holds.number ∙ sym holds.as_frames)
      ∙ ring_oldest (late_at (places_of r) k.samples) r.ahead silence p.frames a e holds.late
      ∙ ap (λ (m : ℕ). get_or (f ∷ p.frames) m silence) (sym e)

  pub stepped_multiplied : (multiplied_step_on r n k f).out ≡ multiplied r (count_of r (taken r p f)) (late_of r (taken r p f))
  unfolding multiplied_step_on
  stepped_multiplied =
      ap (λ (c : ℕ). multiplied r c (late_at (places_of r) (needs_after r k (need_of r f)) (n % r.ahead))) count_is
      ∙ ap (multiplied r (count_of r (taken r p f))) late_is

  pub stepped_holds : Holds r (n + 1) (taken r p f) (multiplied_step_on r n k f).next
  unfolding multiplied_step_on taken
  stepped_holds =
      let P = places_of r in
      let counts = numbers_after r n k (need_of r f) in
      let samples = needs_after r k (need_of r f) in
      let step = step_of (released_after r n k (need_of r f)) in
      record {
        number = add-one n ∙ ap suc holds.number;
        as_steps = ap suc holds.as_steps;
        as_frames = ap suc holds.as_frames;
        sized = record { room = simp length-set holds.sized.room; rooms = simp length-set holds.sized.rooms };
        at_head = queue_turn.at_head;
        queue_length = queue_turn.sized;
        queue =
            queued_same (entry_at samples counts) _ P (head_after r n k (need_of r f)) (queue_of le r.window (need_of r f ∷ p.needs)) (omega arith)
            (λ j h. pair (get_or-set_other counts (step_place r n) j step 0 (λ e. omega arith)) (put_low P (n % r.ahead) samples f.left f.right j h)) queue_turn.queue;
        released = released_is;
        counted = count_is;
        steps =
            ring_push (step_at P k.counts) (step_at P (set counts (step_place r n) step)) (r.ahead + 1) unit (step_of (taken r p f).released) p.steps (omega arith) holds.steps
            (ap (λ (m : ℕ). step_at P (set counts (step_place r n) step) (m % (r.ahead + 1))) (sym n_steps)
            ∙ get_or-set_same counts (step_place r n) step 0 (simp length-set (omega (arith, step_lt, holds.sized.rooms)))
            ∙ ap step_of released_is)
            (λ j h ne.
            get_or-set_other counts (step_place r n) (P + j) step 0 (λ e. ne (added P j (n % (r.ahead + 1)) e ∙ ap (λ (m : ℕ). m % (r.ahead + 1)) n_steps))
            ∙ step_low P (slot r k (need_of r f)) k.counts n j slot_lt);
        late =
            ring_push (late_at P k.samples) (late_at P (set (set samples (late_place r n) f.left) (late_place r n + 1) f.right)) r.ahead silence f p.frames ahead_pos holds.late
            (ap (λ (m : ℕ). late_at P (set (set samples (late_place r n) f.left) (late_place r n + 1) f.right) (m % r.ahead)) (sym n_frames)
            ∙ put_here P (n % r.ahead) samples f.left f.right (simp length-set (omega (arith, late_lt, holds.sized.room))))
            (λ j h ne.
            put_there P (n % r.ahead) samples f.left f.right j (λ e. ne (e ∙ ap (λ (m : ℕ). m % r.ahead) n_frames))
            ∙ late_low P (slot r k (need_of r f)) k.samples (need_of r f) j slot_lt);
      }
    where
      n_steps : n ≡ length p.steps
      n_steps = holds.number ∙ sym holds.as_steps

      n_frames : n ≡ length p.frames
      n_frames = holds.number ∙ sym holds.as_frames

      step_lt : n % (r.ahead + 1) < r.ahead + 1
      step_lt = mod-lt (n) (omega arith)

      late_lt : n % r.ahead < r.ahead
      late_lt = mod-lt (n) ahead_pos

      added : (a b c : ℕ) → a + b ≡ a + c → b ≡ c
      added a b c e = omega arith

-- as a fresh ceiling is kept: what is in the queue's places is of no matter
pub record Fresh (r : CeilingRate) (k : CeilingIn) : Type 0 where
  pub sized : Sized r k.samples k.counts
  pub at_head : k.ceiling.head < places_of r
  pub empty : k.ceiling.len ≡ 0
  pub released : k.ceiling.released ≡ one
  pub counted : k.ceiling.count ≡ (r.ahead + 1) * unit
  pub steps : (j : ℕ) → j < r.ahead + 1 → get_or k.counts (places_of r + j) 0 ≡ unit
  pub late : (j : ℕ) → j < 2 * r.ahead → get_or k.samples (places_of r + j) nan ≡ nought

total_first : (k d : ℕ) → total (last_of k d []) ≡ k * d
unfolding total last_of
total_first zero d = omega arith
total_first (suc k) d = ap (λ (n : ℕ). d + n) (total_first k d) ∙ add_comm d (k * d) ∙ sym (suc-mul k d)

module _ (r : CeilingRate) (usable : Usable r) where
  pub fresh_holds : (k : CeilingIn) → Fresh r k → Holds r 0 fresh_machine k
  unfolding Rings count_of queue_of
  fresh_holds k g =
      let w = r.window - 1 in
      let wide : r.window ≡ suc w = omega (arith, usable.window_long) in
      record {
        number = refl;
        as_steps = refl;
        as_frames = refl;
        sized = g.sized;
        at_head = g.at_head;
        queue_length = rw wide g.empty;
        queue = rw wide tt;
        released = g.released;
        counted = g.counted ∙ ap (λ (n : ℕ). n * unit) (add-one r.ahead) ∙ sym (total_first (suc r.ahead) unit);
        steps = λ i h. g.steps (place (r.ahead + 1) 0 i) (mod-lt (0 + (r.ahead + 1 - suc i)) (omega arith));
        late = λ i h.
            let m = place r.ahead 0 i in
            let l : m < r.ahead = mod-lt (0 + (r.ahead - suc i)) usable.ahead_pos in
            frames (g.late (2 * m) (omega arith)) (ap (λ (x : ℕ). get_or k.samples x nan) (add_assoc (places_of r) (2 * m) 1) ∙ g.late (2 * m + 1) (omega arith));
      }

  -- a frame is multiplied, and delivered, as the machine's, and what is then kept holds the machine's past
  pub multiplied_relates : Relates (Holds r) (multiplied_step r) (multiplied_step_on r)
  unfolding multiplied_step
  multiplied_relates =
      let w = r.window - 1 in
      let wide : r.window ≡ suc w = omega (arith, usable.window_long) in
      record {
        keeps = λ n p k f holds. stepped_holds r n p k f w wide usable.ahead_pos holds;
        same = λ n p k f holds. sym (stepped_multiplied r n p k f w wide usable.ahead_pos holds);
      }

  pub ceiling_relates : Relates (Holds r) (ceiling_step r) (ceiling_step_on r)
  unfolding ceiling_step ceiling_step_on
  ceiling_relates = relates_mapped (Holds r) (multiplied_step r) (multiplied_step_on r) (delivered r) multiplied_relates

  -- THE THEOREM: from a fresh ceiling, for every list of frames, the sides before narrowing and clamping, the frames and the gain counts are the machine's
  pub same_multiplied : (k : CeilingIn) → Fresh r k → (fs : List Frame) → outs (multiplied_step_on r) 0 k fs ≡ outs (multiplied_step r) 0 fresh_machine fs
  same_multiplied k g fs = sym (related_outs (Holds r) (multiplied_step r) (multiplied_step_on r) multiplied_relates 0 fresh_machine k fs (fresh_holds k g))

  pub same_heard : (k : CeilingIn) → Fresh r k → (fs : List Frame) → outs (ceiling_step_on r) 0 k fs ≡ outs (ceiling_step r) 0 fresh_machine fs
  same_heard k g fs = sym (related_outs (Holds r) (ceiling_step r) (ceiling_step_on r) ceiling_relates 0 fresh_machine k fs (fresh_holds k g))
