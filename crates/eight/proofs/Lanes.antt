-- Vectors of eight lanes that were computed lane by lane from one of them. Assumes nothing.
use Rattle.std.proofs.Common.{◌≡◌, ℕ, zero, suc, ◌<◌, List, map, length, get_or, ap, sym, ◌∙◌, replicate, arith}
use Rattle.std.proofs.lemmas.List.{ext_get_or, map-id, get_or-map, length-map}
use Rattle.std.proofs.lemmas.Simd.{zip2_of_maps, splat_is_map, zip2_splat, map-map, get_or-zip2, length-zip2}
use Rattle.std.specs.Simd.Lanes.{zip2}
use lib.Ieee.{Float, nan}
use Rattle.casts.specs.Arithmetic.{◌⊕◌, ◌⊖◌, ◌⊗◌, ◌⊘◌, one}
use Rattle.elementary.specs.Elementary.{TANH}
use Rattle.eight.specs.Each.{saturated_over}

-- what holds at 0 to 7 holds below 8
pub below_eight : (P : ℕ → Type 0) → P 0 → P 1 → P 2 → P 3 → P 4 → P 5 → P 6 → P 7 → (k : ℕ) → k < 8 → P k
below_eight P a b c d e f g h zero u = a
below_eight P a b c d e f g h (suc zero) u = b
below_eight P a b c d e f g h (suc (suc zero)) u = c
below_eight P a b c d e f g h (suc (suc (suc zero))) u = d
below_eight P a b c d e f g h (suc (suc (suc (suc zero)))) u = e
below_eight P a b c d e f g h (suc (suc (suc (suc (suc zero))))) u = f
below_eight P a b c d e f g h (suc (suc (suc (suc (suc (suc zero)))))) u = g
below_eight P a b c d e f g h (suc (suc (suc (suc (suc (suc (suc zero))))))) u = h
below_eight P a b c d e f g h (suc (suc (suc (suc (suc (suc (suc (suc k)))))))) u = absurd (omega arith)

pub same_eight : {X : Type 0} (v : X) (xs ys : List X) → length xs ≡ 8 → length ys ≡ 8 → get_or xs 0 v ≡ get_or ys 0 v → get_or xs 1 v ≡ get_or ys 1 v → get_or xs 2 v ≡ get_or ys 2 v → get_or xs 3 v ≡ get_or ys 3 v → get_or xs 4 v ≡ get_or ys 4 v → get_or xs 5 v ≡ get_or ys 5 v → get_or xs 6 v ≡ get_or ys 6 v → get_or xs 7 v ≡ get_or ys 7 v → xs ≡ ys
same_eight v xs ys p q a b c d e f g h =
    ext_get_or v xs ys (p ∙ sym q) (λ k u. below_eight (λ i. get_or xs i v ≡ get_or ys i v) a b c d e f g h k (omega (arith, u, p)))

pub same_lanes : (xs ys : List Float) → length xs ≡ 8 → length ys ≡ 8 → get_or xs 0 nan ≡ get_or ys 0 nan → get_or xs 1 nan ≡ get_or ys 1 nan → get_or xs 2 nan ≡ get_or ys 2 nan → get_or xs 3 nan ≡ get_or ys 3 nan → get_or xs 4 nan ≡ get_or ys 4 nan → get_or xs 5 nan ≡ get_or ys 5 nan → get_or xs 6 nan ≡ get_or ys 6 nan → get_or xs 7 nan ≡ get_or ys 7 nan → xs ≡ ys
same_lanes = same_eight nan

pub mapped_lanes : (m : Float → Float) (xs ys : List Float) → length xs ≡ 8 → length ys ≡ 8 → get_or ys 0 nan ≡ m (get_or xs 0 nan) → get_or ys 1 nan ≡ m (get_or xs 1 nan) → get_or ys 2 nan ≡ m (get_or xs 2 nan) → get_or ys 3 nan ≡ m (get_or xs 3 nan) → get_or ys 4 nan ≡ m (get_or xs 4 nan) → get_or ys 5 nan ≡ m (get_or xs 5 nan) → get_or ys 6 nan ≡ m (get_or xs 6 nan) → get_or ys 7 nan ≡ m (get_or xs 7 nan) → ys ≡ map m xs
mapped_lanes m xs ys p q a b c d e f g h =
    let at : (k : ℕ) → k < 8 → get_or (map m xs) k nan ≡ m (get_or xs k nan) = λ k u. get_or-map m xs k nan nan (omega (arith, u, p)) in
    same_lanes ys (map m xs) q (length-map xs m ∙ p) (a ∙ sym (at 0 (omega arith))) (b ∙ sym (at 1 (omega arith))) (c ∙ sym (at 2 (omega arith))) (d ∙ sym (at 3 (omega arith))) (e ∙ sym (at 4 (omega arith))) (f ∙ sym (at 5 (omega arith))) (g ∙ sym (at 6 (omega arith))) (h ∙ sym (at 7 (omega arith)))

pub zipped_eight : {X : Type 0} (v : X) (m : Float → Float → X) (xs ys : List Float) (zs : List X) → length xs ≡ 8 → length ys ≡ 8 → length zs ≡ 8 → get_or zs 0 v ≡ m (get_or xs 0 nan) (get_or ys 0 nan) → get_or zs 1 v ≡ m (get_or xs 1 nan) (get_or ys 1 nan) → get_or zs 2 v ≡ m (get_or xs 2 nan) (get_or ys 2 nan) → get_or zs 3 v ≡ m (get_or xs 3 nan) (get_or ys 3 nan) → get_or zs 4 v ≡ m (get_or xs 4 nan) (get_or ys 4 nan) → get_or zs 5 v ≡ m (get_or xs 5 nan) (get_or ys 5 nan) → get_or zs 6 v ≡ m (get_or xs 6 nan) (get_or ys 6 nan) → get_or zs 7 v ≡ m (get_or xs 7 nan) (get_or ys 7 nan) → zs ≡ zip2 m xs ys
zipped_eight v m xs ys zs p q r a b c d e f g h =
    let at : (k : ℕ) → k < 8 → get_or (zip2 m xs ys) k v ≡ m (get_or xs k nan) (get_or ys k nan) = λ k u. get_or-zip2 m xs ys k nan nan v (omega (arith, u, p)) (omega (arith, u, q)) in
    same_eight v zs (zip2 m xs ys) r (length-zip2 m xs ys (p ∙ sym q) ∙ p) (a ∙ sym (at 0 (omega arith))) (b ∙ sym (at 1 (omega arith))) (c ∙ sym (at 2 (omega arith))) (d ∙ sym (at 3 (omega arith))) (e ∙ sym (at 4 (omega arith))) (f ∙ sym (at 5 (omega arith))) (g ∙ sym (at 6 (omega arith))) (h ∙ sym (at 7 (omega arith)))

pub zipped_lanes : (m : Float → Float → Float) (xs ys zs : List Float) → length xs ≡ 8 → length ys ≡ 8 → length zs ≡ 8 → get_or zs 0 nan ≡ m (get_or xs 0 nan) (get_or ys 0 nan) → get_or zs 1 nan ≡ m (get_or xs 1 nan) (get_or ys 1 nan) → get_or zs 2 nan ≡ m (get_or xs 2 nan) (get_or ys 2 nan) → get_or zs 3 nan ≡ m (get_or xs 3 nan) (get_or ys 3 nan) → get_or zs 4 nan ≡ m (get_or xs 4 nan) (get_or ys 4 nan) → get_or zs 5 nan ≡ m (get_or xs 5 nan) (get_or ys 5 nan) → get_or zs 6 nan ≡ m (get_or xs 6 nan) (get_or ys 6 nan) → get_or zs 7 nan ≡ m (get_or xs 7 nan) (get_or ys 7 nan) → zs ≡ zip2 m xs ys
zipped_lanes = zipped_eight nan

pub as_mapped : (z : List Float) (f g : Float → Float) (t : List Float) → t ≡ map g z → ((u : Float) → g u ≡ f u) → t ≡ map f z
as_mapped z f g t e same =
    let s : g ≡ f = λ i u. same u i in
    e ∙ ap (λ (h : Float → Float). map h z) s

module _ (z : List Float) (long : length z ≡ 8) (g : Float → Float) (t : List Float) (e : t ≡ map g z) where
  pub tanh_lanes : (j k : Float) → k ≡ j → zip2 (λ a b. a ⊕ b) (replicate 8 k) (zip2 (λ a b. a ⊘ b) z t) ≡ map (λ u. j ⊕ u ⊘ g u) z
  tanh_lanes j k same =
      rw same (zip2_of_maps (λ a b. a ⊕ b) (λ u. j) (λ u. u ⊘ g u) z (splat_is_map z 8 j long) (zip2_of_maps (λ a b. a ⊘ b) (λ u. u) g z (sym (map-id z)) e))

  pub wave_lanes : (m k : Float) → k ≡ m → zip2 (λ a b. a ⊖ b) (replicate 8 one) (zip2 (λ a b. a ⊗ b) (zip2 (λ a b. a ⊘ b) z (replicate 8 k)) t) ≡ map (λ u. one ⊖ (u ⊘ m) ⊗ g u) z
  wave_lanes m k same =
      rw same (zip2_of_maps (λ a b. a ⊖ b) (λ u. one) (λ u. (u ⊘ m) ⊗ g u) z (splat_is_map z 8 one long) (zip2_of_maps (λ a b. a ⊗ b) (λ u. u ⊘ m) g z (zip2_of_maps (λ a b. a ⊘ b) (λ u. u) (λ u. m) z (sym (map-id z)) (splat_is_map z 8 m long)) e))

pub saturated_lanes : (drive top : Float) (x : List Float) → length x ≡ 8 → (t : List Float) → t ≡ map TANH (zip2 (λ a b. a ⊗ b) x (replicate 8 drive)) → zip2 (λ a b. a ⊘ b) t (replicate 8 top) ≡ map (saturated_over drive top) x
saturated_lanes drive top x long t e =
    let scaled = zip2_splat (λ a b. a ⊗ b) x 8 drive long in
    let tanh : t ≡ map (λ v. TANH (v ⊗ drive)) x = e ∙ ap (λ (l : List Float). map TANH l) scaled ∙ map-map TANH (λ v. v ⊗ drive) x in
    zip2_of_maps (λ a b. a ⊘ b) (λ v. TANH (v ⊗ drive)) (λ v. top) x tanh (splat_is_map x 8 top long)
