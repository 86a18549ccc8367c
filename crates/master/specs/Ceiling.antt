-- The ceiling of the one-sample machine (document 01, "Ceiling"), on its whole past, newest first: no queue, no ring, no running total.
use Rattle.std.specs.Prelude.{ℕ, zero, suc, ◌+◌, ◌*◌, Bool, cond, ◌||◌, List, [], ◌∷◌, take, is_nan, slice_index_or, Float}
use Rattle.std.specs.Float.Ieee.{neg, lt, le}
use Rattle.casts.specs.Arithmetic.{◌⊗◌, ◌⊘◌, whole, nought, one, size_of}
use Rattle.casts.specs.Cast.{narrowed}
use Rattle.casts.specs.Least.{min_f}
use Rattle.casts.specs.Step.{step_of}
use Rattle.delay.specs.Delay.{all_zero}
use Rattle.stage.specs.Stage.{Stage, mapped}
use Rattle.rate.specs.declared.CeilingRate.{CeilingRate}
use Rattle.rate.specs.Ceiling.{unit}
use Rattle.stream.specs.declared.Frame.{Frame}
use Rattle.master.specs.declared.Heard.{Heard}

-- its state in 01: "the past needs and steps, the released gain, and the last 220 frames"
pub record CeilingMachine : Type 0 where
  pub needs : List Float
  pub released : Float
  pub steps : List ℕ
  pub frames : List Frame

-- "Peak is the larger size, a NaN side ignored."
unfoldable pub larger_of : Float → Float → Float
larger_of a b = cond (lt a b || is_nan a) b a

unfoldable pub peak_of : Frame → Float
peak_of f = larger_of (size_of f.left) (size_of f.right)

-- "Need is the f64 quotient limit/peak where the peak is above the limit, else 1; both NaN gives need 1."
unfoldable pub need_for : Float → Float → Float
need_for limit peak = cond (lt limit peak) (limit ⊘ peak) one

unfoldable pub need_of : CeilingRate → Frame → Float
need_of r f = need_for r.limit (peak_of f)

-- "Held = the least need of the last 882 frames, this one included, or of all frames while they are fewer."
unfoldable pub least : {E : Type 0} → (E → E → Bool) → E → List E → E
least le x [] = x
least le x (y ∷ l) = least le (cond (le x y) x y) l

unfoldable pub least_of : List Float → Float
least_of [] = one
least_of (x ∷ l) = least le x l

unfoldable pub held_of : CeilingRate → List Float → Float
held_of r needs = least_of (take r.window needs)

-- "Released = min(held, released·rise), first 1."
unfoldable pub released_of : CeilingRate → List Float → Float → Float
released_of r needs before = min_f (held_of r needs) (before ⊗ r.rise)

-- "The gain count is the sum of the last 221 steps (2^40 before the first)."
unfoldable pub last_of : {A : Type 0} → ℕ → A → List A → List A
last_of zero d l = []
last_of (suc k) d [] = d ∷ last_of k d []
last_of (suc k) d (x ∷ l) = x ∷ last_of k d l

unfoldable pub total : List ℕ → ℕ
total [] = 0
total (x ∷ l) = x + total l

unfoldable pub count_of : CeilingRate → CeilingMachine → ℕ
count_of r m = total (last_of (suc r.ahead) unit m.steps)

-- "the last 220 frames (zero before the first)", of which "the frame 220 back": this one is 0 back
abbrev pub silence : Frame
silence = record { left = nought; right = nought }

unfoldable pub late_of : CeilingRate → CeilingMachine → Frame
late_of r m = slice_index_or m.frames r.ahead silence

-- the past with one frame more: "Step = whole part of released·2^40."
unfoldable pub taken : CeilingRate → CeilingMachine → Frame → CeilingMachine
taken r m f =
    let needs = need_of r f ∷ m.needs in
    let released = released_of r needs m.released in
    record { needs = needs; released = released; steps = step_of released ∷ m.steps; frames = f ∷ m.frames }

-- "The frame 220 back is multiplied by count/(221·2^40)": its sides before narrowing and clamping, of which 02's E11 speaks
pub record Multiplied : Type 0 where
  pub left : Float
  pub right : Float
  pub count : ℕ

unfoldable pub gain_of : CeilingRate → ℕ → Float
gain_of r count = whole count ⊘ whole (suc r.ahead * unit)

unfoldable pub multiplied : CeilingRate → ℕ → Frame → Multiplied
multiplied r count late = record { left = late.left ⊗ gain_of r count; right = late.right ⊗ gain_of r count; count = count }

unfoldable pub multiplied_step : CeilingRate → Stage CeilingMachine Frame Multiplied
multiplied_step r n m f = let p = taken r m f in record { next = p; out = multiplied r (count_of r p) (late_of r p) }

-- "then narrowed and clamped to the limit, and so delivered"
unfoldable pub clamped : Float → Float → Float
clamped limit x = cond (lt x (neg limit)) (neg limit) (cond (lt limit x) limit x)

unfoldable pub delivered : CeilingRate → Multiplied → Heard
delivered r s = record { left = clamped r.limit (narrowed s.left); right = clamped r.limit (narrowed s.right); count = s.count }

unfoldable pub ceiling_step : CeilingRate → Stage CeilingMachine Frame Heard
ceiling_step r = mapped (multiplied_step r) (delivered r)

abbrev pub fresh_machine : CeilingMachine
fresh_machine = record { needs = []; released = one; steps = []; frames = [] }

-- ---- rest

-- 02, E4: "all 220 waiting frames": the last 220, which are still to be delivered
unfoldable pub waiting_of : CeilingRate → CeilingMachine → List Frame
waiting_of r m = last_of r.ahead silence m.frames

-- "on both sides"
unfoldable pub sides_of : List Frame → List Float
sides_of [] = []
sides_of (f ∷ fs) = f.left ∷ f.right ∷ sides_of fs

-- "be zero", as in a line: −0 counts, NaN does not. Needs, steps and the released gain are not asked
unfoldable pub ceiling_at_rest : CeilingRate → CeilingMachine → Bool
ceiling_at_rest r m = all_zero (sides_of (waiting_of r m))
