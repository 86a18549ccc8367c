-- THE SHEET VALUE (02, E11), over every list of frames: count_bound gives the gain bound of any past, side_bounded the rest. Assumes nothing.
use Rattle.std.proofs.Common.{◌≡◌, ℕ, zero, suc, ◌+◌, ◌*◌, ◌≤◌, Bool, cond, List, [], ◌∷◌, ◌++◌, length, get_or, replicate, sym, refl, ap, ◌∙◌, subst, inl, inr, append_assoc, le_refl, arith, lit≤, length-append}
use mathlib.Core.Path.{subst⁻¹}
use lib.ListN.{get_or-eq_default}
use lib.Ieee.{Float, lt, is_nan, of_bits}
use lib.Ieee.Positive.{num, den, den_pos}
use Rattle.casts.specs.Arithmetic.{◌⊘◌, nought, half, one, size_of}
use Rattle.casts.specs.Step.{step_of, step_one}
use Rattle.stage.specs.Stage.{outs, All, Beside}
use Rattle.stage.proofs.Laws.{outs_length, all_append, beside_none, all_beside}
use Rattle.rate.specs.declared.CeilingRate.{CeilingRate}
use Rattle.rate.specs.Ceiling.{unit, ceiling_rate, Usable, SheetValueUsable}
use Rattle.rate.proofs.Ceiling.{usable_44100, usable_48000, sheet_value_usable_44100, sheet_value_usable_48000}
use Rattle.stream.specs.declared.Frame.{Frame}
use Rattle.master.specs.Ceiling.{fresh_machine, silence, peak_of, larger_of, need_for, need_of, last_of, total, count_of, late_of, multiplied, multiplied_step}
use Rattle.master.specs.Kept.{ceiling_fresh}
use Rattle.master.specs.SheetValue.{Moderate, ModerateFrame, FrameBound, Figure, SheetValueAt, SheetValue}
use Rattle.master.proofs.Window.{le_or_lt}
use Rattle.master.proofs.Bound.{after, steps_bound, steps_full}
use Rattle.master.proofs.Refines.{same_multiplied}
use Rattle.master.proofs.Delivered.{frames_are}
use Rattle.master.proofs.Opening.{fresh_is}
use Rattle.master.proofs.Sizes.{plain_nonnegative, plain_not_below, le_sizes, under_one→le}
use Rattle.master.proofs.Peak.{Peaked, peaked, Needed, needed}
use Rattle.master.proofs.Side.{side_bounded}
use Rattle.master.proofs.Unclamped.{unclamped_by}
use Rattle.master.proofs.AboveLimit.{above}

-- ---- silence
moderate_nought : Moderate nought
unfolding of_bits
moderate_nought = record { is_finite = tt; size = lit≤ tt }

moderate_silence : (k : ℕ) → All ModerateFrame (replicate k silence)
moderate_silence zero = tt
moderate_silence (suc k) = (record { left = moderate_nought; right = moderate_nought }, moderate_silence k)

-- ---- the k frames that wait, the oldest first, silence before the first
abbrev waiting : ℕ → List Frame → List Frame
waiting zero h = []
waiting (suc k) h = get_or h k silence ∷ waiting k h

waiting_first : (k : ℕ) → waiting k [] ≡ replicate k silence
waiting_first zero = refl
waiting_first (suc k) = ap (λ (l : List Frame). silence ∷ l) (waiting_first k)

waiting_more : (k : ℕ) (f : Frame) (h : List Frame) → waiting k h ++ (f ∷ []) ≡ waiting (suc k) (f ∷ h)
waiting_more zero f h = refl
waiting_more (suc k) f h = ap (λ (l : List Frame). get_or h k silence ∷ l) (waiting_more k f h)

module _ (r : CeilingRate) (usable : Usable r) (besides : SheetValueUsable r) where
  -- ---- silence needs 1
  silence_need : need_of r silence ≡ one
  unfolding need_of peak_of size_of larger_of need_for lt is_nan of_bits
  silence_need = ap (λ (b : Bool). cond b (r.limit ⊘ nought) one) (plain_not_below r.limit usable.limit_plain)

  -- ---- the gain bound of any past, the late frame being silence while the past is short
  count_bound : (h : List Frame) → count_of r (after r h) ≤ suc r.ahead * step_of (need_of r (get_or h r.ahead silence))
  unfolding count_of of_bits
  count_bound h = elim (le_or_lt (length h) r.ahead) [
    | inl s ↦
        subst (λ (f : Frame). total (last_of (suc r.ahead) unit (after r h).steps) ≤ suc r.ahead * step_of (need_of r f)) (sym (get_or-eq_default h silence s))
        (subst (λ (x : Float). total (last_of (suc r.ahead) unit (after r h).steps) ≤ suc r.ahead * step_of x) (sym silence_need)
        (subst (λ (k : ℕ). total (last_of (suc r.ahead) unit (after r h).steps) ≤ suc r.ahead * k) (sym step_one) (steps_full r usable (suc r.ahead) h)))
    | inr l ↦ steps_bound r usable (suc r.ahead) r.ahead h (le_refl (suc r.ahead)) usable.window_long l
  ]

  low : den r.limit ≤ num r.limit * 2
  unfolding of_bits
  low = flat (den r.limit) (num r.limit * 2) (le_sizes half r.limit tt (plain_nonnegative r.limit usable.limit_plain) besides.limit_low)
    where
      flat : (a b : ℕ) → 1 * a ≤ b → a ≤ b
      flat a b h = omega arith

  high : num r.limit ≤ den r.limit
  unfolding of_bits
  high = under_one→le (num r.limit) (den r.limit) (le_sizes r.limit one (plain_nonnegative r.limit usable.limit_plain) tt besides.limit_high)

  late_bounded : (h : List Frame) → ModerateFrame (get_or h r.ahead silence) → FrameBound r.limit (multiplied r (count_of r (after r h)) (get_or h r.ahead silence))
  unfolding need_of multiplied
  late_bounded h m =
      let f = get_or h r.ahead silence in
      let q = peak_of f in
      let k : Peaked f q = peaked f m.left m.right in
      let n : Needed (num r.limit) (den r.limit) (num q) (den q) (need_of r f) = needed r.limit q usable.limit_plain low k.nonnegative k.small in
      let c = count_bound h in
      record {
        left = side_bounded r.limit usable.limit_plain low high r besides.ahead_few (num q) (den q) (count_of r (after r h)) f.left (need_of r f) (den_pos q) m.left.is_finite k.left n c;
        right = side_bounded r.limit usable.limit_plain low high r besides.ahead_few (num q) (den q) (count_of r (after r h)) f.right (need_of r f) (den_pos q) m.right.is_finite k.right n c;
      }

  -- ---- over the frames in order, the frames h having come before
  one_bounded : (h : List Frame) (f : Frame) (n : ℕ) → Figure r.limit (get_or (f ∷ h) r.ahead silence) (multiplied_step r n (after r h) f).out
  unfolding multiplied_step late_of after
  one_bounded h f n =
      subst (λ (l : List Frame). Figure r.limit (get_or (f ∷ h) r.ahead silence) (multiplied r (count_of r (after r (f ∷ h))) (get_or l r.ahead silence))) (sym (frames_are r usable (f ∷ h))) (late_bounded (f ∷ h))

  from_past : (n : ℕ) (h fs : List Frame) → Beside (Figure r.limit) (waiting r.ahead h ++ fs) (outs (multiplied_step r) n (after r h) fs)
  unfolding outs multiplied_step after
  from_past n h [] = beside_none (Figure r.limit) (waiting r.ahead h ++ [])
  from_past n h (f ∷ fs) =
      subst (λ (l : List Frame). Beside (Figure r.limit) l (outs (multiplied_step r) n (after r h) (f ∷ fs)))
      (ap (λ (l : List Frame). l ++ fs) (sym (waiting_more r.ahead f h)) ∙ append_assoc (waiting r.ahead h) (f ∷ []) fs)
      (one_bounded h f n, from_past (n + 1) (f ∷ h) fs)

  each_bounded : (fs : List Frame) → Beside (Figure r.limit) (replicate r.ahead silence ++ fs) (outs (multiplied_step r) 0 fresh_machine fs)
  unfolding after
  each_bounded fs = subst (λ (l : List Frame). Beside (Figure r.limit) (l ++ fs) (outs (multiplied_step r) 0 fresh_machine fs)) (waiting_first r.ahead) (from_past 0 [] fs)

  machine_bounded : (fs : List Frame) → All ModerateFrame fs → All (FrameBound r.limit) (outs (multiplied_step r) 0 fresh_machine fs)
  machine_bounded fs a =
      all_beside ModerateFrame (FrameBound r.limit) (replicate r.ahead silence ++ fs) (outs (multiplied_step r) 0 fresh_machine fs) (each_bounded fs)
      (all_append ModerateFrame (replicate r.ahead silence) fs (moderate_silence r.ahead) a)
      (omega (arith, outs_length (multiplied_step r) 0 fresh_machine fs, length-append (replicate r.ahead silence) fs))

  -- THE SHEET VALUE, at a rate
  pub sheet_value_at : SheetValueAt r
  sheet_value_at =
      record {
        machine = machine_bounded;
        kept = λ samples counts sized fs a. subst⁻¹ (All (FrameBound r.limit)) (same_multiplied r usable (ceiling_fresh r samples counts) (fresh_is r samples counts sized) fs) (machine_bounded fs a);
        each = each_bounded;
        unclamped = unclamped_by r.limit usable.limit_plain besides.limit_narrows;
      }

-- E11
pub sheet_value : SheetValue
sheet_value =
    record {
      at_44100 = sheet_value_at (ceiling_rate 44100) usable_44100 sheet_value_usable_44100;
      at_48000 = sheet_value_at (ceiling_rate 48000) usable_48000 sheet_value_usable_48000;
      above_44100 = above.0;
      above_48000 = above.1;
    }
