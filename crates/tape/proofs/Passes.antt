-- Pass by pass over a block is sample by sample. Assumes nothing.
use mathlib.Core.Path.{◌≡◌, refl, ap, ◌∙◌}
use mathlib.Core.Bool.{Bool}
use mathlib.Core.List.{List, map}
use Prim.Native.Nat.{ℕ, ◌+◌, ◌<◌}
use native.Mathlib.Omega.{arith}
use lib.ListN.{length}
use lib.Ieee.{Float}
use Rattle.stage.specs.Stage.{Stage, ran, outs, both, mapped}
use Rattle.stage.proofs.Laws.{ran_both, outs_both, ran_mapped, outs_mapped, ran_carried, outs_carried}
use Rattle.ramp.specs.declared.Ramp.{Ramp}
use Rattle.rate.specs.declared.TapeRate.{TapeRate}
use Rattle.duck.specs.Cursors.{DuckIn, duck_on}
use Rattle.tape.specs.declared.Tape.{Tape}
use Rattle.tape.specs.declared.TapeSetup.{TapeSetup}
use Rattle.tape.specs.declared.Equalizer.{Equalizer}
use Rattle.eight.specs.Each.{saturated_over}
use Rattle.tape.specs.Tape.{equalizer_step}
use Rattle.tape.specs.Kept.{FrontIn, front_on, front_step_on, ducked_step_on, TapeIn, tape_on, tape_tuned}

-- the lane t with what its passes keep
tape_of : Tape → ℕ → FrontIn × (Equalizer × DuckIn) → TapeIn
tape_of t n s =
    tape_on (record { tone = s.0.tone; equalizer = s.1.0; duck = s.1.1.duck; drive = t.drive; top = t.top; until = t.until }) s.0.ring s.1.1.part

module _ (r : TapeRate) (s : TapeSetup) (rain : Ramp) (d : Bool) (t : Tape) where
  abbrev saturation : Float → Float
  saturation = saturated_over t.drive t.top

  abbrev front : Stage FrontIn Float Float
  front = mapped (front_step_on r s) saturation

  abbrev equalizer : Stage Equalizer Float Float
  equalizer = equalizer_step s rain

  abbrev duck : Stage DuckIn Float Float
  duck = ducked_step_on r.duck s.ducked d

  passes : Stage (FrontIn × (Equalizer × DuckIn)) Float Float
  passes = both front (both equalizer duck)

  same : (e m : ℕ) (u : FrontIn × (Equalizer × DuckIn)) (x : Float) → m < e → m ≡ m
      → tape_tuned r s rain d m (tape_of t m u) x ≡ record { next = tape_of t (m + 1) (passes m u x).next; out = (passes m u x).out }
  unfolding tape_of passes tape_tuned
  same e m u x h i = refl

  module _ (n : ℕ) (ring : List Float) (counts : List ℕ) (xs : List Float) where
    start : FrontIn × (Equalizer × DuckIn)
    start = (front_on t.tone ring, (t.equalizer, duck_on t.duck counts))

    -- what the saturation gives, and the equalizer
    abbrev driven : List Float
    driven = map saturation (outs (front_step_on r s) n (front_on t.tone ring) xs)

    abbrev equalized : List Float
    equalized = outs equalizer n t.equalizer driven

    pub tape_ran : ran (tape_tuned r s rain d) n (tape_on t ring counts) xs
        ≡ tape_on
        (record {
          tone = (ran (front_step_on r s) n (front_on t.tone ring) xs).tone;
          equalizer = ran equalizer n t.equalizer driven;
          duck = (ran duck n (duck_on t.duck counts) equalized).duck;
          drive = t.drive;
          top = t.top;
          until = t.until;
        })
        (ran (front_step_on r s) n (front_on t.tone ring) xs).ring
        (ran duck n (duck_on t.duck counts) equalized).part
    unfolding tape_of passes start
    tape_ran =
        ran_carried passes (tape_tuned r s rain d) (tape_of t) (n + length xs) (λ m u. m ≡ m) (λ m u x h i. refl) (same (n + length xs)) n start xs (omega arith) refl
        ∙ ap (tape_of t (n + length xs)) (ran_both front (both equalizer duck) n (front_on t.tone ring) (t.equalizer, duck_on t.duck counts) xs)
        ∙ rw (ran_mapped (front_step_on r s) saturation n (front_on t.tone ring) xs, outs_mapped (front_step_on r s) saturation n (front_on t.tone ring) xs, ran_both equalizer duck n t.equalizer (duck_on t.duck counts) driven)

    pub tape_outs : outs (tape_tuned r s rain d) n (tape_on t ring counts) xs ≡ outs duck n (duck_on t.duck counts) equalized
    unfolding tape_of passes start
    tape_outs =
        outs_carried passes (tape_tuned r s rain d) (tape_of t) (n + length xs) (λ m u. m ≡ m) (λ m u x h i. refl) (same (n + length xs)) n start xs (omega arith) refl
        ∙ outs_both front (both equalizer duck) n (front_on t.tone ring) (t.equalizer, duck_on t.duck counts) xs
        ∙ rw (outs_mapped (front_step_on r s) saturation n (front_on t.tone ring) xs, outs_both equalizer duck n t.equalizer (duck_on t.duck counts) driven)
