-- SIN and COS in eight lanes, by the terms that they share. Assumes nothing.
use Rattle.std.proofs.Common.{◌≡◌, ℕ, ◌+◌, ◌-◌, ◌*◌, List, map, ap, ◌∙◌, arith}
use Rattle.std.proofs.lemmas.Simd.{zip2_of_maps, map-map}
use Rattle.std.specs.Simd.Lanes.{zip2}
use native.Mathlib.Nat.{mul_comm}
use lib.Ieee.{Float}
use Rattle.casts.specs.Arithmetic.{◌⊖◌, ◌⊗◌, ◌⊘◌, whole, one}
use Rattle.elementary.specs.Elementary.{down, turn, SIN, COS, sin_step, cos_step}
use Rattle.eight.specs.Each.{wave_step}

odd : (j : ℕ) → (2 * j + 1) * (2 * j + 1 - 1) ≡ 2 * j * (2 * j + 1)
odd j =
    let e : 2 * j + 1 - 1 ≡ 2 * j = omega arith in
    ap (λ (k : ℕ). (2 * j + 1) * k) e ∙ mul_comm (2 * j + 1) (2 * j)

even : (j : ℕ) → (2 * j + 0) * (2 * j + 0 - 1) ≡ (2 * j - 1) * (2 * j)
even j =
    let e : 2 * j + 0 ≡ 2 * j = omega arith in
    ap (λ (k : ℕ). k * (k - 1)) e ∙ mul_comm (2 * j) (2 * j - 1)

sine : (z : Float) → wave_step 1 z ≡ sin_step z
sine z = λ i j s. one ⊖ (z ⊘ whole (odd j i)) ⊗ s

cosine : (z : Float) → wave_step 0 z ≡ cos_step z
cosine z = λ i j s. one ⊖ (z ⊘ whole (even j i)) ⊗ s

-- of the turned r, whose terms are those of its square
terms_of : (odd terms : ℕ) (x r w : List Float) → r ≡ map turn x → w ≡ map (λ u. down (wave_step odd u) terms one) (zip2 (λ a b. a ⊗ b) r r) → w ≡ map (λ v. down (wave_step odd (turn v ⊗ turn v)) terms one) x
terms_of odd terms x r w e f =
    f ∙ ap (λ (z : List Float). map (λ u. down (wave_step odd u) terms one) z) (zip2_of_maps (λ a b. a ⊗ b) turn turn x e e) ∙ map-map (λ u. down (wave_step odd u) terms one) (λ v. turn v ⊗ turn v) x

pub sin_each : (x r w : List Float) → r ≡ map turn x → w ≡ map (λ u. down (wave_step 1 u) 13 one) (zip2 (λ a b. a ⊗ b) r r) → zip2 (λ a b. a ⊗ b) r w ≡ map SIN x
unfolding SIN
sin_each x r w e f =
    zip2_of_maps (λ a b. a ⊗ b) turn (λ v. down (wave_step 1 (turn v ⊗ turn v)) 13 one) x e (terms_of 1 13 x r w e f) ∙ ap (λ (h : Float → Float). map h x) (λ i v. turn v ⊗ down (sine (turn v ⊗ turn v) i) 13 one)

pub cos_each : (x r w : List Float) → r ≡ map turn x → w ≡ map (λ u. down (wave_step 0 u) 14 one) (zip2 (λ a b. a ⊗ b) r r) → w ≡ map COS x
unfolding COS
cos_each x r w e f =
    terms_of 0 14 x r w e f ∙ ap (λ (h : Float → Float). map h x) (λ i v. down (cosine (turn v ⊗ turn v) i) 14 one)
