-- The ceiling as the code keeps it: a struct by value, and a part of each store that is its own. With P = window + 1:
--     samples  [0, P) the queue's needs, [P, P + 2 ahead) the late frames, left and right
--     counts   [0, P) the queue's frame numbers, [P, P + ahead + 1) the steps
-- The queue: the needs of the window's frames that no later one undercuts or equals, the oldest at `head`, and so the least.
use Rattle.std.specs.Prelude.{ℕ, zero, suc, ◌+◌, ◌-◌, ◌*◌, ◌%◌, Bool, cond, ◌||◌, List, [], ◌∷◌, map, get_or, take, drop, nat_le, nat_lt, slice_index, slice_index_or, slice_set, Float}
use Rattle.std.specs.Float.{nan}
use Rattle.std.specs.Float.Ieee.{le}
use Rattle.casts.specs.Arithmetic.{◌⊗◌, nought, one}
use Rattle.casts.specs.Least.{min_f}
use Rattle.casts.specs.Step.{step_of}
use Rattle.delay.specs.Delay.{all_zero}
use Rattle.stage.specs.Stage.{Step, Stage, mapped}
use Rattle.rate.specs.declared.CeilingRate.{CeilingRate}
use Rattle.rate.specs.Ceiling.{unit}
use Rattle.rate.specs.Stores.{ceiling_samples}
use Rattle.stream.specs.declared.Frame.{Frame}
use Rattle.master.specs.declared.Heard.{Heard}
use Rattle.master.specs.declared.Ceiling.{Ceiling}
use Rattle.master.specs.Ceiling.{need_of, Multiplied, multiplied, delivered}

pub record CeilingIn : Type 0 where
  pub ceiling : Ceiling
  pub samples : List Float
  pub counts : List ℕ

abbrev pub ceiling_on : Ceiling → List Float → List ℕ → CeilingIn
ceiling_on c samples counts = record { ceiling = c; samples = samples; counts = counts }

-- the queue's places
abbrev pub places_of : CeilingRate → ℕ
places_of r = r.window + 1

-- ---- the queue, given the need of the frame n

-- of k entries, how many stay when those at the back that the test holds of go
unfoldable pub count_down : (ℕ → Bool) → ℕ → ℕ
count_down t zero = zero
count_down t (suc k) = cond (t k) (count_down t k) (suc k)

abbrev pub pop_len : {A : Type 0} → (A → A → Bool) → ℕ → ℕ → (ℕ → A) → A → ℕ → ℕ
pop_len le P head val y len = count_down (λ k. le y (val ((head + k) % P))) len

abbrev pub staying : CeilingRate → CeilingIn → Float → ℕ
staying r k need = pop_len le (places_of r) k.ceiling.head (λ i. get_or k.samples i nan) need k.ceiling.len

abbrev pub slot : CeilingRate → CeilingIn → Float → ℕ
slot r k need = (k.ceiling.head + staying r k need) % places_of r

abbrev pub needs_after : CeilingRate → CeilingIn → Float → List Float
needs_after r k need = slice_set k.samples (slot r k need) need

abbrev pub numbers_after : CeilingRate → ℕ → CeilingIn → Float → List ℕ
numbers_after r n k need = slice_set k.counts (slot r k need) n

-- the head goes: its frame left the window, or the ring is over-full, as no list of frames makes it
abbrev pub drops : ℕ → ℕ → ℕ → ℕ → ℕ → Bool
drops W P n number len = nat_le (number + W) n || nat_lt P len

abbrev pub dropped : CeilingRate → ℕ → CeilingIn → Float → Bool
dropped r n k need = drops r.window (places_of r) n (slice_index (numbers_after r n k need) k.ceiling.head) (staying r k need + 1)

unfoldable pub head_after : CeilingRate → ℕ → CeilingIn → Float → ℕ
head_after r n k need = cond (dropped r n k need) ((k.ceiling.head + 1) % places_of r) k.ceiling.head

unfoldable pub len_after : CeilingRate → ℕ → CeilingIn → Float → ℕ
len_after r n k need = cond (dropped r n k need) (staying r k need) (staying r k need + 1)

-- ---- the gain: the need at the head is what is held
unfoldable pub released_after : CeilingRate → ℕ → CeilingIn → Float → Float
released_after r n k need = min_f (slice_index_or (needs_after r k need) (head_after r n k need) nan) (k.ceiling.released ⊗ r.rise)

-- where the step of the frame n goes, in counts, and the frame itself, in samples: the oldest of each stands there
abbrev pub step_place : CeilingRate → ℕ → ℕ
step_place r n = places_of r + n % (r.ahead + 1)

abbrev pub late_place : CeilingRate → ℕ → ℕ
late_place r n = places_of r + 2 * (n % r.ahead)

abbrev pub late_at : ℕ → List Float → ℕ → Frame
late_at P samples j = record { left = slice_index_or samples (P + 2 * j) nan; right = slice_index_or samples (P + 2 * j + 1) nan }

-- ---- one frame: what it leaves, the late frame's sides before narrowing and clamping, and these narrowed and clamped
abbrev pub gave : {Y : Type 0} → Ceiling → List Float → List ℕ → Y → Step CeilingIn Y
gave c samples counts y = record { next = ceiling_on c samples counts; out = y }

unfoldable pub multiplied_step_on : CeilingRate → Stage CeilingIn Frame Multiplied
multiplied_step_on r n k f =
    let need = need_of r f in
    let samples = needs_after r k need in
    let counts = numbers_after r n k need in
    let released = released_after r n k need in
    let step = step_of released in
    let count = k.ceiling.count - slice_index counts (step_place r n) + step in
    gave
    (record { released = released; count = count; head = head_after r n k need; len = len_after r n k need })
    (slice_set (slice_set samples (late_place r n) f.left) (late_place r n + 1) f.right)
    (slice_set counts (step_place r n) step)
    (multiplied r count (late_at (places_of r) samples (n % r.ahead)))

unfoldable pub ceiling_step_on : CeilingRate → Stage CeilingIn Frame Heard
ceiling_step_on r = mapped (multiplied_step_on r) (delivered r)

-- ---- a block: the frames that two slices hold, and the frames and gain counts that it writes
unfoldable pub frames_in : List Float → List Float → List Frame
frames_in [] rights = []
frames_in (l ∷ lefts) [] = []
frames_in (l ∷ lefts) (r ∷ rights) = record { left = l; right = r } ∷ frames_in lefts rights

unfoldable pub frames_out : List Heard → List Float
frames_out [] = []
frames_out (h ∷ hs) = h.left ∷ h.right ∷ frames_out hs

abbrev pub counts_out : List Heard → List ℕ
counts_out hs = map (λ (h : Heard). h.count) hs

-- ---- a fresh ceiling, in parts that held anything: k places from b on, each v
unfoldable pub filled : {A : Type 0} → List A → ℕ → ℕ → A → List A
filled l b zero v = l
filled l b (suc k) v = slice_set (filled l b k v) (b + k) v

unfoldable pub ceiling_fresh : CeilingRate → List Float → List ℕ → CeilingIn
ceiling_fresh r samples counts =
    ceiling_on
    (record { released = one; count = (r.ahead + 1) * unit; head = 0; len = 0 })
    (filled samples 0 (ceiling_samples r) nought)
    (filled (filled counts 0 (places_of r) 0) (places_of r) (r.ahead + 1) unit)

-- ---- rest: the late frames are those that wait
unfoldable pub ceiling_at_rest_on : CeilingRate → List Float → Bool
ceiling_at_rest_on r samples = all_zero (take (2 * r.ahead) (drop (places_of r) samples))
