-- The ceiling at rest: its late frames' places hold only zeros where the machine's waiting frames do, and a fresh one is at rest. Assumes nothing.
use Rattle.std.proofs.Common.{◌≡◌, ℕ, zero, suc, ◌+◌, ◌*◌, ◌/◌, ◌%◌, ◌<◌, ◌≤◌, true, List, [], ◌∷◌, length, get_or, take, drop, sym, refl, ap, ◌∙◌, subst, not-suc-le-zero, add_assoc, mod-lt, arith, length-drop, length-take-le, get_or-drop, get_or-take}
use lib.Ieee.{Float, nan, eq, of_bits}
use Rattle.casts.specs.Arithmetic.{nought}
use Rattle.delay.specs.Delay.{all_zero}
use Rattle.delay.proofs.Rest.{same_truth, zero_each, each_zero}
use Rattle.rate.specs.declared.CeilingRate.{CeilingRate}
use Rattle.rate.specs.Ceiling.{Usable}
use Rattle.stream.specs.declared.Frame.{Frame}
use Rattle.master.specs.Ceiling.{CeilingMachine, silence, last_of, fresh_machine, waiting_of, sides_of, ceiling_at_rest}
use Rattle.master.specs.Kept.{CeilingIn, places_of, late_at, ceiling_at_rest_on}
use Rattle.master.proofs.Rings.{place, place_twice, Rings}
use Rattle.master.proofs.Refines.{Holds}

-- a frame that is zero on both sides
pub record Zero (f : Frame) : Type 0 where
  pub left : eq f.left nought ≡ true
  pub right : eq f.right nought ≡ true

-- a list that holds the sides of L frames, left and right
pub record Sided (l : List Float) (L : ℕ) (frame : ℕ → Frame) : Type 0 where
  pub long : length l ≡ 2 * L
  pub left : (i : ℕ) → i < L → get_or l (2 * i) nan ≡ (frame i).left
  pub right : (i : ℕ) → i < L → get_or l (2 * i + 1) nan ≡ (frame i).right

-- a frame laid before them
one_more : (x : Frame) (l : List Float) (L : ℕ) (frame : ℕ → Frame) → frame 0 ≡ x → Sided l L (λ i. frame (suc i)) → Sided (x.left ∷ x.right ∷ l) (suc L) frame
one_more x l L frame e s = record { long = ap (λ (n : ℕ). suc (suc n)) s.long ∙ omega arith; left = left; right = right }
  where
    left : (i : ℕ) → i < suc L → get_or (x.left ∷ x.right ∷ l) (2 * i) nan ≡ (frame i).left
    left zero h = ap (λ (f : Frame). f.left) (sym e)
    left (suc i) h = let q : 2 * suc i ≡ suc (suc (2 * i)) = omega arith in rw q (s.left i (omega arith))

    right : (i : ℕ) → i < suc L → get_or (x.left ∷ x.right ∷ l) (2 * i + 1) nan ≡ (frame i).right
    right zero h = ap (λ (f : Frame). f.right) (sym e)
    right (suc i) h = let q : 2 * suc i + 1 ≡ suc (suc (2 * i + 1)) = omega arith in rw q (s.right i (omega arith))

module _ (l : List Float) (L : ℕ) (frame : ℕ → Frame) (s : Sided l L frame) where
  pub zero_frames : all_zero l ≡ true → (i : ℕ) → i < L → Zero (frame i)
  zero_frames e i h =
      record {
        left = rw (s.left i h) at (zero_each l e (2 * i) (rw s.long (omega arith)));
        right = rw (s.right i h) at (zero_each l e (2 * i + 1) (rw s.long (omega arith)));
      }

  frames_zero : ((i : ℕ) → i < L → Zero (frame i)) → all_zero l ≡ true
  frames_zero f = each_zero l (λ i h. let k : i < 2 * L = rw s.long at h in side i (i / 2) (omega arith) (i % 2) (omega arith) (omega arith))
    where
      side : (i j : ℕ) → j < L → (b : ℕ) → b < 2 → i ≡ 2 * j + b → eq (get_or l i nan) nought ≡ true
      side i j h zero b e = let q : i ≡ 2 * j = omega arith in rw (q, s.left j h) (f j h).left
      side i j h (suc zero) b e = let q : i ≡ 2 * j + 1 = omega arith in rw (q, s.right j h) (f j h).right
      side i j h (suc (suc b)) l e = absurd (omega arith)

-- the last k of a past
pub past_sided : (k : ℕ) (d : Frame) (h : List Frame) → Sided (sides_of (last_of k d h)) k (λ i. get_or h i d)
unfolding sides_of last_of
past_sided zero d h = record { long = refl; left = λ i l. absurd (not-suc-le-zero l); right = λ i l. absurd (not-suc-le-zero l) }
past_sided (suc k) d [] = one_more d (sides_of (last_of k d [])) k (λ i. get_or [] i d) refl (past_sided k d [])
past_sided (suc k) d (x ∷ h) = one_more x (sides_of (last_of k d h)) k (λ i. get_or (x ∷ h) i d) refl (past_sided k d h)

-- the late frames' places
places_sided : (P L : ℕ) (s : List Float) → P + 2 * L ≤ length s → Sided (take (2 * L) (drop P s)) L (late_at P s)
places_sided P L s room =
    record {
      long = length-take-le (2 * L) (drop P s) (rw length-drop (omega arith));
      left = λ i h. get_or-take (2 * L) (drop P s) (2 * i) nan (omega arith) ∙ get_or-drop P s (2 * i) nan;
      right = λ i h. get_or-take (2 * L) (drop P s) (2 * i + 1) nan (omega arith) ∙ get_or-drop P s (2 * i + 1) nan ∙ ap (λ (j : ℕ). get_or s j nan) (sym (add_assoc P (2 * i) 1));
    }

-- ---- the rest answer

pub ceiling_rest : (r : CeilingRate) → Usable r → (n : ℕ) (m : CeilingMachine) (k : CeilingIn) → Holds r n m k → ceiling_at_rest r m ≡ ceiling_at_rest_on r k.samples
unfolding ceiling_at_rest waiting_of ceiling_at_rest_on Rings
ceiling_rest r u n m k h =
    let P = places_of r in
    let L = r.ahead in
    let N = length m.frames in
    let past = past_sided L silence m.frames in
    let places = places_sided P L k.samples h.sized.room in
    let inside : (i : ℕ) → place L N i < L = λ i. mod-lt _ u.ahead_pos in
    same_truth _ _
    (λ e. frames_zero _ L _ places (λ j l.
    subst (λ (i : ℕ). Zero (late_at P k.samples i)) (place_twice L N j l)
    (subst Zero (sym (h.late (place L N j) (inside j))) (zero_frames _ L _ past e (place L N j) (inside j)))))
    (λ e. frames_zero _ L _ past (λ i l. subst Zero (h.late i l) (zero_frames _ L _ places e (place L N i) (inside i))))

-- ---- fresh

pub ceiling_fresh_rests : (r : CeilingRate) → ceiling_at_rest r fresh_machine ≡ true
unfolding ceiling_at_rest waiting_of eq of_bits
ceiling_fresh_rests r = frames_zero _ r.ahead _ (past_sided r.ahead silence []) (λ i l. record { left = refl; right = refl })
