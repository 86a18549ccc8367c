-- A step does not trap and keeps `Ready`, from whatever is ready, reached by a list of frames or not. Assumes nothing.
use Rattle.std.proofs.Common.{◌≡◌, ℕ, zero, suc, ◌+◌, ◌-◌, ◌*◌, ◌%◌, ◌<◌, ◌≤◌, Bool, true, false, cond, not, ◌||◌, T, ltb, leb, ◌⊎◌, List, [], ◌∷◌, length, get_or, set, sym, refl, ap, ◌∙◌, subst, inl, inr, zero-le, le_trans, le_of_eq, le_refl, le_of_suc-le-suc, not-suc-le-zero, add-zero, mul-le-mul_right, mod-lt, mod-eq_of_lt, suc-mul, eq-or-lt_of_le, arith, nltb→le, length-set, get_or-set_other, get_or-set_same, le-ltb}
use native.Mathlib.Nat.{mod-add-mod}
use borrow.Author.Tests.{lt-leb}
use lib.Ieee.{Float, nan, lt, le, of_bits}
use Rattle.casts.specs.Arithmetic.{◌⊗◌, nought, one}
use Rattle.casts.specs.Order.{le_trans_any, le_clean_left, le_clean_right}
use Rattle.casts.specs.Least.{min_f, min_left}
use Rattle.casts.specs.Step.{step_of, step_le}
use Rattle.stage.specs.Stage.{ran}
use Rattle.rate.specs.declared.CeilingRate.{CeilingRate}
use Rattle.rate.specs.Ceiling.{unit, Usable}
use Rattle.stream.specs.declared.Frame.{Frame}
use Rattle.master.specs.Ceiling.{need_of, peak_of}
use Rattle.master.specs.Kept.{CeilingIn, places_of, count_down, staying, slot, needs_after, numbers_after, drops, dropped, head_after, len_after, released_after, step_place, late_place, multiplied_step_on, ceiling_step_on}
use Rattle.master.specs.WellFormed.{sum_at, well_formed, Sized}
use Rattle.master.proofs.Bound.{Gain, need_gain, rises}
use Rattle.master.proofs.Ready.{Ready, ready_of, of_ready}

-- ---- lists
pub set_keeps : {A : Type 0} (Q : A → Type 0) (l : List A) (i : ℕ) (v : A) (j : ℕ) (d : A) → Q (get_or l j d) → Q v → Q (get_or (set l i v) j d)
set_keeps Q [] i v j d a b = a
set_keeps Q (x ∷ l) zero v zero d a b = b
set_keeps Q (x ∷ l) zero v (suc j) d a b = a
set_keeps Q (x ∷ l) (suc i) v zero d a b = a
set_keeps Q (x ∷ l) (suc i) v (suc j) d a b = set_keeps Q l i v j d a b

-- ---- sums of places
pub sum_below : (l : List ℕ) (b k i v : ℕ) → i < b → sum_at (set l i v) b k ≡ sum_at l b k
unfolding sum_at
sum_below l b zero i v h = refl
sum_below l b (suc k) i v h =
    ap (λ (n : ℕ). n + get_or (set l i v) (b + k) 0) (sum_below l b k i v h) ∙ ap (λ (n : ℕ). sum_at l b k + n) (get_or-set_other l i (b + k) v 0 (λ e. omega arith))

sum_above : (l : List ℕ) (b k i v : ℕ) → b + k ≤ i → sum_at (set l i v) b k ≡ sum_at l b k
unfolding sum_at
sum_above l b zero i v h = refl
sum_above l b (suc k) i v h =
    ap (λ (n : ℕ). n + get_or (set l i v) (b + k) 0) (sum_above l b k i v (omega arith)) ∙ ap (λ (n : ℕ). sum_at l b k + n) (get_or-set_other l i (b + k) v 0 (λ e. omega arith))

pub sum_at_lem : (l : List ℕ) (b k m : ℕ) → m < k → get_or l (b + m) 0 ≤ sum_at l b k
unfolding sum_at
sum_at_lem l b zero m h = absurd (not-suc-le-zero h)
sum_at_lem l b (suc k) m h = elim (split m k h) [ inl e ↦ subst (λ (x : ℕ). get_or l (b + x) 0 ≤ sum_at l b k + get_or l (b + k) 0) (sym e) (right (sum_at l b k) (get_or l (b + k) 0)) | inr g ↦ left (get_or l (b + m) 0) (sum_at l b k) (get_or l (b + k) 0) (sum_at_lem l b k m g) ]
  where
    split : (m k : ℕ) → m < suc k → (m ≡ k) ⊎ (m < k)
    split m k h = eq-or-lt_of_le (le_of_suc-le-suc h)

    right : (a b : ℕ) → b ≤ a + b
    right a b = omega arith

    left : (x a b : ℕ) → x ≤ a → x ≤ a + b
    left x a b h = omega arith

pub sum_le : (l : List ℕ) (b k u : ℕ) → ((j : ℕ) → j < k → get_or l (b + j) 0 ≤ u) → sum_at l b k ≤ k * u
unfolding sum_at
sum_le l b zero u h = zero-le
sum_le l b (suc k) u h = more k (sum_at l b k) (get_or l (b + k) 0) u (sum_le l b k u (λ j g. h j (less j k g))) (h k (le_refl (suc k)))
  where
    less : (j k : ℕ) → j < k → j < suc k
    less j k h = omega arith

    more : (k a x u : ℕ) → a ≤ k * u → x ≤ u → a + x ≤ suc k * u
    more k a x u h g = subst (λ (y : ℕ). a + x ≤ y) (sym (suc-mul k u)) (both a x u (k * u) h g)
      where
        both : (a x u c : ℕ) → a ≤ c → x ≤ u → a + x ≤ c + u
        both a x u c h g = omega arith

pub sum_set : (l : List ℕ) (b k m v : ℕ) → m < k → b + m < length l → sum_at (set l (b + m) v) b k + get_or l (b + m) 0 ≡ sum_at l b k + v
unfolding sum_at
sum_set l b zero m v h g = absurd (not-suc-le-zero h)
sum_set l b (suc k) m v h g = elim (eq-or-lt_of_le (le_of_suc-le-suc h)) [ inl e ↦ here e | inr q ↦ there q (sum_set l b k m v q g) ]
  where
    here : m ≡ k → sum_at (set l (b + m) v) b k + get_or (set l (b + m) v) (b + k) 0 + get_or l (b + m) 0 ≡ sum_at l b k + get_or l (b + k) 0 + v
    here e =
        subst (λ (x : ℕ). sum_at (set l (b + m) v) b k + get_or (set l (b + m) v) (b + x) 0 + get_or l (b + m) 0 ≡ sum_at l b k + get_or l (b + x) 0 + v) e
        (rw (sum_above l b k (b + m) v (omega arith), get_or-set_same l (b + m) v 0 g) (swap (sum_at l b k) v (get_or l (b + m) 0)))
      where
        swap : (a v x : ℕ) → a + v + x ≡ a + x + v
        swap a v x = omega arith

    there : m < k → sum_at (set l (b + m) v) b k + get_or l (b + m) 0 ≡ sum_at l b k + v
        → sum_at (set l (b + m) v) b k + get_or (set l (b + m) v) (b + k) 0 + get_or l (b + m) 0 ≡ sum_at l b k + get_or l (b + k) 0 + v
    there q i = rw (get_or-set_other l (b + m) (b + k) v 0 (λ e. omega arith)) (swap (sum_at (set l (b + m) v) b k) (get_or l (b + k) 0) (get_or l (b + m) 0) (sum_at l b k) v i)
      where
        swap : (a y x c v : ℕ) → a + x ≡ c + v → a + y + x ≡ c + y + v
        swap a y x c v i = omega arith

-- ---- the pops leave no more than there were
down_le : (t : ℕ → Bool) (k : ℕ) → count_down t k ≤ k
unfolding count_down
down_le t zero = le_refl 0
down_le t (suc k) = go (t k) (down_le t k)
  where
    go : (b : Bool) → count_down t k ≤ k → cond b (count_down t k) (suc k) ≤ suc k
    go true h = omega arith
    go false h = le_refl (suc k)

module _ (r : CeilingRate) (n : ℕ) (k : CeilingIn) (need : Float) (usable : Usable r) (ready : Ready r k) (small : Gain need) where
  pub slot_lt : slot r k need < places_of r
  slot_lt = mod-lt (k.ceiling.head + staying r k need) (omega arith)

  pub head_lt : head_after r n k need < places_of r
  unfolding head_after
  head_lt = go (dropped r n k need) (mod-lt (k.ceiling.head + 1) (omega arith)) ready.at_head
    where
      go : (b : Bool) → (k.ceiling.head + 1) % places_of r < places_of r → k.ceiling.head < places_of r → cond b ((k.ceiling.head + 1) % places_of r) k.ceiling.head < places_of r
      go true a b = a
      go false a b = b

  staying_le : staying r k need ≤ places_of r
  staying_le = le_trans (down_le _ k.ceiling.len) ready.full

  pub len_le : len_after r n k need ≤ places_of r
  unfolding len_after
  len_le = go (leb (get_or (numbers_after r n k need) k.ceiling.head 0 + r.window) (n)) (ltb (places_of r) (staying r k need + 1)) (nltb→le (places_of r) (staying r k need + 1)) staying_le
    where
      go : (a b : Bool) → (T (not b) → staying r k need + 1 ≤ places_of r) → staying r k need ≤ places_of r → cond (a || b) (staying r k need) (staying r k need + 1) ≤ places_of r
      go true b h g = g
      go false true h g = g
      go false false h g = h tt

  -- each that is queued, the new one included, is a gain
  queued_gain : (j : ℕ) → j ≤ staying r k need → Gain (get_or (needs_after r k need) ((k.ceiling.head + j) % places_of r) nan)
  queued_gain j h = elim (eq-or-lt_of_le h) [ inl e ↦ newest e | inr l ↦ older l ]
    where
      newest : j ≡ staying r k need → Gain (get_or (needs_after r k need) ((k.ceiling.head + j) % places_of r) nan)
      newest e = rw e (subst Gain (sym (get_or-set_same k.samples (slot r k need) need nan (omega (arith, slot_lt, ready.sized.room)))) small)

      older : j < staying r k need → Gain (get_or (needs_after r k need) ((k.ceiling.head + j) % places_of r) nan)
      older l = set_keeps Gain k.samples (slot r k need) need ((k.ceiling.head + j) % places_of r) nan (ready.needs j (omega (arith, down_le (λ i. le need (get_or k.samples ((k.ceiling.head + i) % places_of r) nan)) k.ceiling.len))) small

  -- the head goes only where another is queued behind it: alone it is the new one, of the frame n itself
  alone : staying r k need ≡ 0 → dropped r n k need ≡ false
  alone e =
      let at : slot r k need ≡ k.ceiling.head = ap (λ (m : ℕ). (k.ceiling.head + m) % places_of r) e ∙ ap (λ (m : ℕ). m % places_of r) (add-zero k.ceiling.head) ∙ mod-eq_of_lt ready.at_head in
      let own : get_or (numbers_after r n k need) k.ceiling.head 0 ≡ n =
      ap (λ (i : ℕ). get_or (set k.counts i n) k.ceiling.head 0) at ∙ get_or-set_same k.counts k.ceiling.head n 0 (omega (arith, ready.sized.rooms, ready.at_head)) in
      both _ _ own e
    where
      both : (m l : ℕ) → m ≡ n → l ≡ 0 → drops r.window (places_of r) n m (l + 1) ≡ false
      both m l p q = rw (lt-leb (m + r.window) n (omega arith), le-ltb (places_of r) (l + 1) (omega arith))

  pub needs_gain : (j : ℕ) → j < len_after r n k need → Gain (get_or (needs_after r k need) ((head_after r n k need + j) % places_of r) nan)
  unfolding head_after len_after
  needs_gain = go (dropped r n k need)
    where
      go : (b : Bool) (j : ℕ) → j < cond b (staying r k need) (staying r k need + 1)
          → Gain (get_or (needs_after r k need) ((cond b ((k.ceiling.head + 1) % places_of r) k.ceiling.head + j) % places_of r) nan)
      go true j h =
          let e : k.ceiling.head + 1 + j ≡ k.ceiling.head + (j + 1) = omega arith in
          rw (mod-add-mod (k.ceiling.head + 1) (places_of r) j, e) (queued_gain (j + 1) (omega arith))
      go false j h = queued_gain j (omega arith)

  some_queued : 0 < len_after r n k need
  unfolding len_after
  some_queued = go (dropped r n k need) refl
    where
      none_or_some : (m : ℕ) → (m ≡ 0) ⊎ (0 < m)
      none_or_some zero = inl refl
      none_or_some (suc m) = inr (omega arith)

      go : (b : Bool) → dropped r n k need ≡ b → 0 < cond b (staying r k need) (staying r k need + 1)
      go true e = elim (none_or_some (staying r k need)) [ inl z ↦ absurd (subst T (sym e ∙ alone z) tt) | inr l ↦ l ]
      go false e = omega arith

  head_gain : Gain (get_or (needs_after r k need) (head_after r n k need) nan)
  head_gain =
      let e : (head_after r n k need + 0) % places_of r ≡ head_after r n k need = ap (λ (m : ℕ). m % places_of r) (add-zero (head_after r n k need)) ∙ mod-eq_of_lt head_lt in
      subst (λ (i : ℕ). Gain (get_or (needs_after r k need) i nan)) e (needs_gain 0 some_queued)

  pub released_after_lem : Gain (released_after r n k need)
  unfolding released_after
  released_after_lem =
      let held = get_or (needs_after r k need) (head_after r n k need) nan in
      let risen = k.ceiling.released ⊗ r.rise in
      let up : T (le nought risen) = rises k.ceiling.released r.rise ready.gain usable.rise_plain in
      let g : Gain held = head_gain in
      let below : T (le (min_f held risen) held) = min_left held risen (le_clean_left held one g.1) (le_clean_right nought risen up) in
      (low (lt risen held) held risen g.0 up, le_trans_any (min_f held risen) held one below g.1)
    where
      low : (b : Bool) (x y : Float) → T (le nought x) → T (le nought y) → T (le nought (cond b y x))
      low true x y p q = q
      low false x y p q = p

  pub step_small : step_of (released_after r n k need) ≤ unit
  unfolding of_bits
  step_small = step_le (released_after r n k need) released_after_lem.0 released_after_lem.1

  step_lt : n % (r.ahead + 1) < r.ahead + 1
  step_lt = mod-lt (n) (omega arith)

  step_in : n % (r.ahead + 1) < suc r.ahead
  step_in = omega (arith, step_lt)

  -- the sum of the steps is the count still, and the step that goes is in it
  sum_same : sum_at (numbers_after r n k need) (places_of r) (suc r.ahead) ≡ k.ceiling.count
  sum_same = sum_below k.counts (places_of r) (suc r.ahead) (slot r k need) (n) slot_lt ∙ sym ready.counted

  pub oldest_le : get_or (numbers_after r n k need) (step_place r n) 0 ≤ k.ceiling.count
  oldest_le = subst (λ (x : ℕ). get_or (numbers_after r n k need) (step_place r n) 0 ≤ x) sum_same (sum_at_lem (numbers_after r n k need) (places_of r) (suc r.ahead) (n % (r.ahead + 1)) step_in)

  pub count_le : k.ceiling.count ≤ 65535 * 1099511627776
  count_le =
      le_trans (le_of_eq ready.counted)
      (le_trans (sum_le k.counts (places_of r) (suc r.ahead) unit ready.steps) (mul-le-mul_right unit (fewer r.ahead usable.ahead_small)))
    where
      fewer : (a : ℕ) → a < 65535 → suc a ≤ 65535
      fewer a h = h

  pub step_place_lem : step_place r n < length k.counts
  step_place_lem = omega (arith, step_lt, ready.sized.rooms)

  late_lt : n % r.ahead < r.ahead
  late_lt = mod-lt (n) usable.ahead_pos

  pub late_place_lem : late_place r n + 1 < length k.samples
  late_place_lem = omega (arith, late_lt, ready.sized.room)

  counted_after : k.ceiling.count - get_or (numbers_after r n k need) (step_place r n) 0 + step_of (released_after r n k need)
      ≡ sum_at (set (numbers_after r n k need) (step_place r n) (step_of (released_after r n k need))) (places_of r) (suc r.ahead)
  counted_after =
      back k.ceiling.count (get_or (numbers_after r n k need) (step_place r n) 0) (step_of (released_after r n k need)) _
      (sum_set (numbers_after r n k need) (places_of r) (suc r.ahead) (n % (r.ahead + 1)) (step_of (released_after r n k need)) step_in (simp length-set step_place_lem)
      ∙ ap (λ (x : ℕ). x + step_of (released_after r n k need)) sum_same)
      oldest_le
    where
      back : (c o s n : ℕ) → n + o ≡ c + s → o ≤ c → c - o + s ≡ n
      back c o s n e h = omega arith

pub need_small : (r : CeilingRate) (f : Frame) → Usable r → Gain (need_of r f)
unfolding need_of
need_small r f usable = need_gain r.limit (peak_of f) usable.limit_plain

-- a step keeps what the next one asks
module _ (r : CeilingRate) (usable : Usable r) where
  pub ready_next : (n : ℕ) (k : CeilingIn) (f : Frame) → Ready r k → Ready r (ceiling_step_on r n k f).next
  unfolding ceiling_step_on multiplied_step_on
  ready_next n k f ready =
      let need = need_of r f in
      let small : Gain need = need_small r f usable in
      let samples = needs_after r k need in
      let counts = numbers_after r n k need in
      record {
        sized = record { room = simp length-set ready.sized.room; rooms = simp length-set ready.sized.rooms };
        at_head = head_lt r n k need usable ready small;
        full = len_le r n k need usable ready small;
        gain = released_after_lem r n k need usable ready small;
        needs = λ j h.
            let i = (head_after r n k need + j) % places_of r in
            let l : i < places_of r = mod-lt (head_after r n k need + j) (omega arith) in
            subst Gain
            (sym
            (get_or-set_other (set samples (late_place r n) f.left) (late_place r n + 1) i f.right nan (λ e. omega arith)
            ∙ get_or-set_other samples (late_place r n) i f.left nan (λ e. omega arith)))
            (needs_gain r n k need usable ready small j h);
        counted = counted_after r n k need usable ready small;
        steps = λ j h.
            set_keeps (λ (x : ℕ). x ≤ unit) counts (step_place r n) (step_of (released_after r n k need)) (places_of r + j) 0
            (subst (λ (x : ℕ). x ≤ unit) (sym (get_or-set_other k.counts (slot r k need) (places_of r + j) n 0 (λ e. omega (arith, slot_lt r n k need usable ready small)))) (ready.steps j h))
            (step_small r n k need usable ready small);
      }

  pub ready_ran : (n : ℕ) (k : CeilingIn) (fs : List Frame) → Ready r k → Ready r (ran (ceiling_step_on r) n k fs)
  unfolding ran
  ready_ran n k [] ready = ready
  ready_ran n k (f ∷ fs) ready = ready_ran (n + 1) (ceiling_step_on r n k f).next fs (ready_next n k f ready)

  -- what passes refusal 4 passes it after any list of frames
  pub well_formed_after : (n : ℕ) (k : CeilingIn) (fs : List Frame) → Sized r k.samples k.counts → T (well_formed r k) → T (well_formed r (ran (ceiling_step_on r) n k fs))
  well_formed_after n k fs sized passes = of_ready r (ran (ceiling_step_on r) n k fs) (ready_ran n k fs (ready_of r k sized passes))

-- a block leaves the parts of the stores as long as they were
pub ran_lengths : (r : CeilingRate) (n : ℕ) (k : CeilingIn) (fs : List Frame)
    → (length (ran (ceiling_step_on r) n k fs).samples ≡ length k.samples) × (length (ran (ceiling_step_on r) n k fs).counts ≡ length k.counts)
unfolding ran ceiling_step_on multiplied_step_on
ran_lengths r n k [] = (refl, refl)
ran_lengths r n k (f ∷ fs) = let e = ran_lengths r (n + 1) (ceiling_step_on r n k f).next fs in (e.0 ∙ simp length-set, e.1 ∙ simp length-set)
