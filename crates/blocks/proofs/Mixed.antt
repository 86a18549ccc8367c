-- What is sent, and the plate with what it is mixed with, over a block. Assumes nothing.
use mathlib.Core.Path.{◌≡◌, refl, ap}
use Prim.Native.Nat.{ℕ, zero, suc, ◌+◌, ◌<◌}
use native.Mathlib.Omega.{arith}
use mathlib.Core.List.{List, [], ◌∷◌, map}
use lib.ListN.{length, get_or}
use lib.Ieee.{Float, nan}
use Rattle.casts.specs.Arithmetic.{◌⊕◌, ◌⊗◌}
use Rattle.stage.specs.Stage.{ran, outs}
use Rattle.stream.specs.declared.Frame.{Frame}
use Rattle.rate.specs.declared.PlateRate.{PlateRate}
use Rattle.plate.specs.Plate.{PlateIn, plate_step_on}
use Rattle.strip.specs.Machine.{Sent, sent_at, mix_of}
use Rattle.strip.specs.Kept.{mixed_step_on}
use Rattle.blocks.specs.Run.{sents_in, added}

pub sents_map : (send : Float) (ys : List Float) → sents_in ys (map (λ y. y ⊗ send) ys) ≡ map (sent_at send) ys
unfolding sents_in
sents_map send [] = refl
sents_map send (y ∷ ys) = ap (λ (l : List Sent). sent_at send y ∷ l) (sents_map send ys)

pub added_length : (ys ss : List Float) → length ss ≡ length ys → length (added ys ss) ≡ length ys
unfolding added
added_length [] ss e = refl
added_length (y ∷ ys) [] e = absurd (omega arith)
added_length (y ∷ ys) (s ∷ ss) e = ap suc (added_length ys ss (omega arith))

pub added_at : (ys ss : List Float) (i : ℕ) → length ss ≡ length ys → i < length ys → get_or (added ys ss) i nan ≡ get_or ys i nan ⊕ get_or ss i nan
unfolding added
added_at [] ss i e h = absurd (omega arith)
added_at (y ∷ ys) [] i e h = absurd (omega arith)
added_at (y ∷ ys) (s ∷ ss) zero e h = refl
added_at (y ∷ ys) (s ∷ ss) (suc i) e h = added_at ys ss i (omega arith) (omega arith)

module _ (r : PlateRate) where
  pub mixed_ran : (n : ℕ) (p : PlateIn) (ys ss : List Float) → length ss ≡ length ys → ran (mixed_step_on r) n p (sents_in ys ss) ≡ ran (plate_step_on r) n p ss
  unfolding ran mixed_step_on sents_in
  mixed_ran n p [] [] e = refl
  mixed_ran n p [] (s ∷ ss) e = absurd (omega arith)
  mixed_ran n p (y ∷ ys) [] e = absurd (omega arith)
  mixed_ran n p (y ∷ ys) (s ∷ ss) e = mixed_ran (n + 1) (plate_step_on r n p s).next ys ss (omega arith)

  -- a side of the frames
  module _ (side : Frame → Float) (mix : (y : Float) (f : Frame) → side (mix_of y f) ≡ y ⊕ side f) where
    pub mixed_side : (n : ℕ) (p : PlateIn) (ys ss : List Float) → length ss ≡ length ys
        → map side (outs (mixed_step_on r) n p (sents_in ys ss)) ≡ added ys (map side (outs (plate_step_on r) n p ss))
    unfolding outs mixed_step_on sents_in added
    mixed_side n p [] [] e = refl
    mixed_side n p [] (s ∷ ss) e = absurd (omega arith)
    mixed_side n p (y ∷ ys) [] e = absurd (omega arith)
    mixed_side n p (y ∷ ys) (s ∷ ss) e = rw (mix y (plate_step_on r n p s).out, mixed_side (n + 1) (plate_step_on r n p s).next ys ss (omega arith))
