-- A tuning lasts: over a piece, the lane tuned once is the lane tuned at every sample. Assumes nothing.
use mathlib.Core.Path.{◌≡◌, refl, ◌∙◌}
use mathlib.Core.Bool.{Bool, true, false, cond}
use mathlib.Core.List.{List, [], ◌∷◌}
use Prim.Native.Nat.{ℕ, ◌+◌, ◌<◌, ◌≤◌}
use native.Mathlib.Omega.{arith}
use native.Mathlib.Decide.{dec_lt}
use lib.Dec.{ltb}
use lib.ListN.{length}
use lib.Ieee.{Float}
use borrow.Author.Tests.{lt-ltb, le-ltb}
use Rattle.stage.specs.Stage.{Stage, ran, outs}
use Rattle.stage.proofs.Laws.{ran_carried, outs_carried}
use Rattle.ramp.specs.declared.Ramp.{Ramp}
use Rattle.rate.specs.declared.TapeRate.{TapeRate}
use Rattle.automation.specs.declared.Tone.{Tone}
use Rattle.automation.specs.Pieces.{piece_at}
use Rattle.automation.proofs.Span.{span_some}
use Rattle.tape.specs.declared.Tape.{Tape}
use Rattle.tape.specs.declared.TapeSetup.{TapeSetup}
use Rattle.tape.specs.Tape.{Lists}
use Rattle.tape.specs.Kept.{TapeIn, tape_on, tape_tuned, tuned_afresh, tuned_at, tape_step_on}

module _ (r : TapeRate) (tone : Tone) (daylight : Ramp) (positions : List ℕ) (values : List Float) (n : ℕ) (t : Tape) where
  pub tuned_kept : n < t.until → tuned_at r tone daylight positions values n t ≡ t
  unfolding tuned_at
  tuned_kept h = rw (lt-ltb n t.until h)

  afresh_some : n < (tuned_afresh r tone daylight positions values n t).until
  unfolding tuned_afresh piece_at
  afresh_some = omega (arith, span_some daylight positions n)

  pub tuned_some : n < (tuned_at r tone daylight positions values n t).until
  unfolding tuned_at
  tuned_some = elim (dec_lt n t.until) [ yes h ↦ rw (lt-ltb n t.until h) h | no h ↦ rw (le-ltb n t.until (omega arith)) afresh_some ]

  -- a tuning leaves the rest of the lane as it is
  tuned_leaves : {A : Type 0} (field : Tape → A) → field (tuned_afresh r tone daylight positions values n t) ≡ field t → field (tuned_at r tone daylight positions values n t) ≡ field t
  unfolding tuned_at
  tuned_leaves field e = by (ltb n t.until)
    where
      by : (b : Bool) → field (cond b t (tuned_afresh r tone daylight positions values n t)) ≡ field t
      by true = refl
      by false = e

  pub tuned_equalizer : (tuned_at r tone daylight positions values n t).equalizer ≡ t.equalizer
  unfolding tuned_afresh
  tuned_equalizer = tuned_leaves (λ (u : Tape). u.equalizer) refl

  pub tuned_duck : (tuned_at r tone daylight positions values n t).duck ≡ t.duck
  unfolding tuned_afresh
  tuned_duck = tuned_leaves (λ (u : Tape). u.duck) refl

module _ (r : TapeRate) (s : TapeSetup) (daylight rain : Ramp) (l : Lists) (d : Bool) (n : ℕ) (t : TapeIn) where
  abbrev each : Stage TapeIn Float Float
  each = tape_step_on r s daylight rain l d

  abbrev once : Stage TapeIn Float Float
  once = tape_tuned r s rain d

  -- the lane tuned for the piece's first sample
  abbrev tape : Tape
  tape = tuned_at r s.tone daylight l.positions l.values n t.tape

  abbrev at_once : TapeIn
  at_once = tape_on tape t.ring t.counts

  Lasts : ℕ → TapeIn → Type 0
  Lasts m u = u.tape.until ≡ tape.until

  lasts_keeps : (m : ℕ) (u : TapeIn) (x : Float) → m < tape.until → Lasts m u → Lasts (m + 1) (once m u x).next
  unfolding Lasts tape_tuned
  lasts_keeps m u x h e = e

  lasts_same : (m : ℕ) (u : TapeIn) (x : Float) → m < tape.until → Lasts m u → each m u x ≡ record { next = (once m u x).next; out = (once m u x).out }
  unfolding Lasts tape_step_on
  lasts_same m u x h e = rw (tuned_kept r s.tone daylight l.positions l.values m u.tape (omega (arith, h, e)))

  module _ (xs : List Float) (some : 0 < length xs) (few : n + length xs ≤ tape.until) where
    again : tuned_at r s.tone daylight l.positions l.values n tape ≡ tape
    again = tuned_kept r s.tone daylight l.positions l.values n tape (omega arith)

    first_ran : (ys : List Float) → 0 < length ys → ran each n t ys ≡ ran each n at_once ys
    unfolding ran tape_step_on
    first_ran [] h = absurd (omega arith)
    first_ran (y ∷ ys) h = rw again

    first_outs : (ys : List Float) → 0 < length ys → outs each n t ys ≡ outs each n at_once ys
    unfolding outs tape_step_on
    first_outs [] h = absurd (omega arith)
    first_outs (y ∷ ys) h = rw again

    pub tuned_ran : ran each n t xs ≡ ran once n at_once xs
    unfolding Lasts
    tuned_ran = first_ran xs some ∙ ran_carried once each (λ m u. u) tape.until Lasts lasts_keeps lasts_same n at_once xs few refl

    pub tuned_outs : outs each n t xs ≡ outs once n at_once xs
    unfolding Lasts
    tuned_outs = first_outs xs some ∙ outs_carried once each (λ m u. u) tape.until Lasts lasts_keeps lasts_same n at_once xs few refl
