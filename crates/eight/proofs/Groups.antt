-- A list whose first i numbers are done: done up to e, and all of them. Assumes nothing.
use Rattle.std.proofs.Common.{◌≡◌, ℕ, ◌+◌, ◌-◌, ◌<◌, ◌≤◌, List, [], ◌∷◌, map, ◌++◌, length, take, drop, get_or, set, ap, sym, ◌∙◌, arith, append_assoc, append-nil, length-take-le}
use Rattle.std.proofs.lemmas.List.{take_at, drop_at, drop-drop, take_all, drop_all, map-append, length-map, map_more, drop_more, set_at}
use lib.Seq.{take-add}
use borrow.Rule.Slice.PartMut.{put_mid, mid_of}
use lib.Ieee.{Float, nan}

module _ (f : Float → Float) (s₀ : List Float) where
  abbrev pub done_to : ℕ → List Float
  done_to i = map f (take i s₀) ++ drop i s₀

  pub done_group : (i e : ℕ) (s ys : List Float) → s ≡ done_to i → i ≤ e → e ≤ length s₀ → ys ≡ map f (mid_of i (e - i) s) → put_mid i (e - i) s ys ≡ done_to e
  done_group i e s ys done up within part =
      let all : i + (e - i) ≡ e = omega arith in
      let long : length (map f (take i s₀)) ≡ i = length-map (take i s₀) f ∙ length-take-le i s₀ (omega arith) in
      let first : take i s ≡ map f (take i s₀) = ap (take i) done ∙ take_at (map f (take i s₀)) (drop i s₀) i long in
      let rest : drop i s ≡ drop i s₀ = ap (drop i) done ∙ drop_at (map f (take i s₀)) (drop i s₀) i long in
      let last : drop (e - i) (drop i s) ≡ drop e s₀ = ap (drop (e - i)) rest ∙ drop-drop (e - i) i s₀ ∙ ap (λ (n : ℕ). drop n s₀) all in
      let new : ys ≡ map f (take (e - i) (drop i s₀)) = part ∙ ap (λ (l : List Float). map f (take (e - i) l)) rest in
      let both : map f (take e s₀) ≡ map f (take i s₀) ++ map f (take (e - i) (drop i s₀)) =
      ap (λ (n : ℕ). map f (take n s₀)) (sym all) ∙ ap (map f) (take-add i (e - i) s₀) ∙ map-append f (take i s₀) (take (e - i) (drop i s₀)) in
      rw (first, new, last, both) (sym (append_assoc (map f (take i s₀)) (map f (take (e - i) (drop i s₀))) (drop e s₀)))

  pub done_one : (i : ℕ) (s : List Float) (v : Float) → s ≡ done_to i → i < length s₀ → v ≡ f (get_or s₀ i nan) → set s i v ≡ done_to (i + 1)
  done_one i s v done within new =
      let long : length (map f (take i s₀)) ≡ i = length-map (take i s₀) f ∙ length-take-le i s₀ (omega (arith, within)) in
      let next : drop i s₀ ≡ get_or s₀ i nan ∷ drop (i + 1) s₀ = drop_more s₀ i nan within in
      let old : s ≡ map f (take i s₀) ++ get_or s₀ i nan ∷ drop (i + 1) s₀ = done ∙ ap (λ (t : List Float). map f (take i s₀) ++ t) next in
      rw (old, new, map_more f s₀ i nan within) (set_at (map f (take i s₀)) (get_or s₀ i nan) (drop (i + 1) s₀) (f (get_or s₀ i nan)) i long ∙ sym (append_assoc (map f (take i s₀)) (f (get_or s₀ i nan) ∷ []) (drop (i + 1) s₀)))

  pub done_all : (i : ℕ) → length s₀ ≤ i → done_to i ≡ map f s₀
  done_all i h = rw (take_all i s₀ h, drop_all i s₀ h) (append-nil (map f s₀))
