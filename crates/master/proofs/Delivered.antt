-- The gain bound for the frames in the order in which they come, of the machine and of the ceiling as it is kept. Assumes nothing.
use Rattle.std.proofs.Common.{◌≡◌, ℕ, zero, suc, ◌+◌, ◌-◌, ◌*◌, ◌<◌, ◌≤◌, List, [], ◌∷◌, length, get_or, take, sym, refl, ap, ◌∙◌, subst, inl, inr, le_refl, le_of_suc-le-suc, not-suc-le-zero, zero-add, arith, length-take-le}
use Rattle.casts.specs.Step.{step_of}
use Rattle.stage.specs.Stage.{outs}
use Rattle.rate.specs.declared.CeilingRate.{CeilingRate}
use Rattle.rate.specs.Ceiling.{Usable}
use Rattle.stream.specs.declared.Frame.{Frame}
use Rattle.master.specs.declared.Heard.{Heard}
use Rattle.master.specs.Ceiling.{silence, need_of, CeilingMachine, taken, fresh_machine, count_of, late_of, multiplied, multiplied_step, delivered, ceiling_step}
use Rattle.master.specs.Kept.{CeilingIn, ceiling_step_on}
use Rattle.master.proofs.Window.{le_or_lt}
use Rattle.master.proofs.Bound.{after, steps_bound}
use Rattle.master.proofs.Refines.{Fresh, same_heard}

module _ (r : CeilingRate) (sound : Usable r) where
  pub frames_are : (h : List Frame) → (after r h).frames ≡ h
  unfolding after taken
  frames_are [] = refl
  frames_are (f ∷ h) = ap (λ l. f ∷ l) (frames_are h)

  -- after any list of frames, newest first
  gain_bound : (h : List Frame) → r.ahead < length h → count_of r (after r h) ≤ suc r.ahead * step_of (need_of r (late_of r (after r h)))
  unfolding count_of late_of
  gain_bound h k =
      subst (λ (l : List Frame). count_of r (after r h) ≤ suc r.ahead * step_of (need_of r (get_or l r.ahead silence))) (sym (frames_are h))
      (steps_bound r sound (suc r.ahead) r.ahead h (le_refl (suc r.ahead)) sound.window_long k)

-- the frames of l, in order, onto a past
unfoldable pub onto : List Frame → List Frame → List Frame
onto [] h = h
onto (f ∷ l) h = onto l (f ∷ h)

onto_length : (l h : List Frame) → length (onto l h) ≡ length l + length h
unfolding onto
onto_length [] h = sym (zero-add (length h))
onto_length (f ∷ l) h = onto_length l (f ∷ h) ∙ shift (length l) (length h)
  where
    shift : (a b : ℕ) → a + suc b ≡ suc a + b
    shift a b = omega arith

onto_past : (l h : List Frame) (j : ℕ) (d : Frame) → get_or (onto l h) (length l + j) d ≡ get_or h j d
unfolding onto
onto_past [] h j d = ap (λ (n : ℕ). get_or h n d) (zero-add j)
onto_past (f ∷ l) h j d = ap (λ (n : ℕ). get_or (onto l (f ∷ h)) n d) (shift (length l) j) ∙ onto_past l (f ∷ h) (suc j) d
  where
    shift : (a b : ℕ) → suc a + b ≡ a + suc b
    shift a b = omega arith

-- a back from the newest of the first suc i
back : (fs : List Frame) (h : List Frame) (i a : ℕ) (d : Frame) → i < length fs → a ≤ i → get_or (onto (take (suc i) fs) h) a d ≡ get_or fs (i - a) d
unfolding onto
back [] h i a d l k = absurd (not-suc-le-zero l)
back (f ∷ fs) h zero zero d l k = refl
back (f ∷ fs) h zero (suc a) d l k = absurd (not-suc-le-zero k)
back (f ∷ fs) h (suc i) a d l k = elim (le_or_lt a i) [ inl b ↦ inside b (back fs (f ∷ h) i a d (le_of_suc-le-suc l) b) | inr b ↦ first b ]
  where
    inside : a ≤ i → get_or (onto (take (suc i) fs) (f ∷ h)) a d ≡ get_or fs (i - a) d → get_or (onto (take (suc i) fs) (f ∷ h)) a d ≡ get_or (f ∷ fs) (suc i - a) d
    inside b e = e ∙ ap (λ (n : ℕ). get_or (f ∷ fs) n d) (one_more i a b)
      where
        one_more : (i a : ℕ) → a ≤ i → suc (i - a) ≡ suc i - a
        one_more i a b = omega arith

    first : i < a → get_or (onto (take (suc i) fs) (f ∷ h)) a d ≡ get_or (f ∷ fs) (suc i - a) d
    first b =
        ap (λ (n : ℕ). get_or (onto (take (suc i) fs) (f ∷ h)) n d) (all (length (take (suc i) fs)) (length-take-le (suc i) fs (le_of_suc-le-suc l)))
        ∙ onto_past (take (suc i) fs) (f ∷ h) 0 d
        ∙ ap (λ (n : ℕ). get_or (f ∷ fs) n d) (none i a b k)
      where
        all : (m : ℕ) → m ≡ suc i → a ≡ m + 0
        all m e = omega arith

        none : (i a : ℕ) → i < a → a ≤ suc i → 0 ≡ suc i - a
        none i a b k = omega arith

-- what is delivered at the frame i is what the machine delivers after the first suc i
abbrev pub delivered_after : CeilingRate → CeilingMachine → Heard
delivered_after r m = delivered r (multiplied r (count_of r m) (late_of r m))

at_frame : (r : CeilingRate) (n : ℕ) (h fs : List Frame) (i : ℕ) (d : Heard) → i < length fs → get_or (outs (ceiling_step r) n (after r h) fs) i d ≡ delivered_after r (after r (onto (take (suc i) fs) h))
unfolding outs ceiling_step multiplied_step onto after
at_frame r n h [] i d l = absurd (not-suc-le-zero l)
at_frame r n h (f ∷ fs) zero d l = refl
at_frame r n h (f ∷ fs) (suc i) d l = at_frame r (n + 1) (f ∷ h) fs i d (le_of_suc-le-suc l)

module _ (r : CeilingRate) (usable : Usable r) (fs : List Frame) (i : ℕ) (d : Heard) (within : i < length fs) (late : r.ahead ≤ i) where
  abbrev past : List Frame
  past = onto (take (suc i) fs) []

  long : r.ahead < length past
  long = subst (λ (n : ℕ). r.ahead < n) (sym (onto_length (take (suc i) fs) [])) (omega (arith, length-take-le (suc i) fs within))

  frame_is : late_of r (after r past) ≡ get_or fs (i - r.ahead) silence
  unfolding late_of
  frame_is = ap (λ (l : List Frame). get_or l r.ahead silence) (frames_are r usable past) ∙ back fs [] i r.ahead silence within late

  count_at : (get_or (outs (ceiling_step r) 0 fresh_machine fs) i d).count ≡ count_of r (after r past)
  unfolding after multiplied delivered
  count_at = ap (λ (x : Heard). x.count) (at_frame r 0 [] fs i d within)

  -- THE GAIN BOUND: at every frame i of a list, from the one with number `ahead` on, the count is at most ahead + 1 times the step of the need of the frame `ahead` before,
  -- from which the delivered frame comes
  pub machine_bound : (get_or (outs (ceiling_step r) 0 fresh_machine fs) i d).count ≤ suc r.ahead * step_of (need_of r (get_or fs (i - r.ahead) silence))
  machine_bound = rw (count_at, ← frame_is) (gain_bound r usable past long)

  -- the same of the ceiling as the code keeps it
  pub kept_bound : (k : CeilingIn) → Fresh r k → (get_or (outs (ceiling_step_on r) 0 k fs) i d).count ≤ suc r.ahead * step_of (need_of r (get_or fs (i - r.ahead) silence))
  kept_bound k g = rw (same_heard r usable k g fs) machine_bound
