-- Eight numbers at once: where the nth convergents and those after them are alike they are the 40th, and TANH is what comes of that. Assumes nothing.
use Rattle.std.proofs.Common.{◌≡◌, ℕ, ◌+◌, ◌-◌, ◌*◌, ◌^◌, ◌%◌, ◌<◌, ◌≤◌, Bool, true, false, cond, List, [], ◌∷◌, map, length, refl, ap, sym, ◌∙◌, arith, pow_pos}
use Rattle.std.proofs.lemmas.List.{map-id, length-map}
use Rattle.std.proofs.lemmas.Simd.{zip2_of_maps, map-map, mask_l-mod, tops_compared, length-zip2}
use Rattle.std.specs.Simd.Lanes.{zip2, mask_l, top}
use native.Mathlib.Nat.{pow-suc, mul_comm}
use mir.Syntax.{w64}
use lib.Ieee.{Float, eq}
use Rattle.casts.specs.Arithmetic.{◌⊗◌, ◌⊘◌}
use Rattle.elementary.specs.Elementary.{TANH}
use Rattle.elementary.specs.Convergent.{convergent}
use Rattle.elementary.proofs.Ordered.{square_unsigned}
use Rattle.elementary.proofs.Convergents.{settled, convergent_whole}
use Rattle.eight.specs.Each.{held_at}

pub squares : (x : List Float) → zip2 (λ a b. a ⊗ b) x x ≡ map (λ v. v ⊗ v) x
squares x = zip2_of_maps (λ a b. a ⊗ b) (λ v. v) (λ v. v) x (sym (map-id x)) (sym (map-id x))

-- the convergents of the squares
pub of_squares : (x : List Float) (n : ℕ) (t : List Float) → t ≡ map (λ u. convergent u n) (zip2 (λ a b. a ⊗ b) x x) → t ≡ map (λ v. convergent (v ⊗ v) n) x
of_squares x n t e =
    e ∙ ap (λ (z : List Float). map (λ u. convergent u n) z) (squares x) ∙ map-map (λ u. convergent u n) (λ v. v ⊗ v) x

-- a sum of a bit and an even number that is all ones below p doubled
all_ones : (b : Bool) (m p q : ℕ) → 0 < p → q ≡ 2 * p → cond b 1 0 + 2 * m ≡ q - 1 → (b ≡ true) × (m ≡ p - 1)
all_ones true m p q some d e = (refl, omega (arith, some, d, e))
all_ones false m p q some d e = absurd (omega (arith, some, d, e))

module _ (n : ℕ) (some : 1 < n) (few : n < 40) where
  -- where the mask is of ones alone, both are alike in every lane
  alike : (x : List Float) → mask_l (zip2 eq (map (λ v. convergent (v ⊗ v) n) x) (map (λ v. convergent (v ⊗ v) (n + 1)) x)) ≡ 2 ^ length x - 1 → map (λ v. convergent (v ⊗ v) n) x ≡ map (λ v. convergent (v ⊗ v) 40) x
  alike [] e = refl
  alike (v ∷ x) e =
      let p = all_ones (eq (convergent (v ⊗ v) n) (convergent (v ⊗ v) (n + 1))) _ (2 ^ length x) (2 ^ length (v ∷ x)) (pow_pos (length x)) (pow-suc 2 (length x) ∙ mul_comm _ 2) e in
      rw (settled (v ⊗ v) n (square_unsigned v) some few p.0, alike x p.1)

  pub all_settled : (x t u : List Float) → length x ≡ 8 → t ≡ map (λ v. convergent (v ⊗ v) n) x → u ≡ map (λ v. convergent (v ⊗ v) (n + 1)) x → mask_l (map (top 63) (zip2 (λ a b. cond (eq a b) (2 ^ 64 - 1) 0) t u)) % 2 ^ 64 ≡ 255 → t ≡ map (λ v. convergent (v ⊗ v) 40) x
  all_settled x t u long e f same =
      let t_long : length t ≡ 8 = ap length e ∙ length-map x (λ v. convergent (v ⊗ v) n) ∙ long in
      let u_long : length u ≡ 8 = ap length f ∙ length-map x (λ v. convergent (v ⊗ v) (n + 1)) ∙ long in
      let short : length (zip2 eq t u) ≤ 64 = omega (arith, length-zip2 eq t u (t_long ∙ sym u_long), t_long) in
      let ones : mask_l (zip2 eq t u) ≡ 255 = sym (mask_l-mod (zip2 eq t u) 64 short) ∙ ap (λ (bs : List Bool). mask_l bs % 2 ^ 64) (sym (tops_compared w64 eq t u)) ∙ same in
      let mask : mask_l (zip2 eq (map (λ v. convergent (v ⊗ v) n) x) (map (λ v. convergent (v ⊗ v) (n + 1)) x)) ≡ mask_l (zip2 eq t u) = λ i. mask_l (zip2 eq (sym e i) (sym f i)) in
      e ∙ alike x (mask ∙ ones ∙ sym (ap (λ (k : ℕ). 2 ^ k - 1) long))

held_convergent : (v : Float) → held_at v (v ⊘ convergent (v ⊗ v) 40) ≡ TANH v
unfolding TANH
held_convergent v = rw convergent_whole

pub tanh_each : (x q t : List Float) → t ≡ map (λ v. convergent (v ⊗ v) 40) x → q ≡ zip2 held_at x (zip2 (λ a b. a ⊘ b) x t) → q ≡ map TANH x
tanh_each x q t e f =
    let same : (λ v. held_at v (v ⊘ convergent (v ⊗ v) 40)) ≡ TANH = λ i v. held_convergent v i in
    f ∙ zip2_of_maps held_at (λ v. v) (λ v. v ⊘ convergent (v ⊗ v) 40) x (sym (map-id x)) (zip2_of_maps (λ a b. a ⊘ b) (λ v. v) (λ v. convergent (v ⊗ v) 40) x (sym (map-id x)) e) ∙ ap (λ (h : Float → Float). map h x) same
