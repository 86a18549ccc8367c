-- The points that are reached, those after them, and those of a tie. Assumes nothing.
use Rattle.std.proofs.Common.{◌≡◌, ℕ, zero, suc, ◌+◌, ◌<◌, ◌≤◌, List, [], ◌∷◌, length, get_or, drop, refl, ap, add-one, arith, length-drop, drop_of_length-le, drop-cons, eq-eqb, ne_eqb, le-leb}
use native.Mathlib.Decide.{dec_le, ℕ_discrete}
use borrow.Author.Tests.{lt-leb}
use Rattle.automation.specs.Automation.{reached}
use Rattle.automation.specs.Kept.{tied, tie_end}

pub reached_most : (ps : List ℕ) (n : ℕ) → reached ps n ≤ length ps
unfolding reached
reached_most [] n = omega arith
reached_most (p ∷ ps) n = elim (dec_le p n) [
  | yes h ↦ rw (le-leb p n h) (omega (arith, reached_most ps n))
  | no h ↦ rw (lt-leb p n (omega arith)) (omega arith)
]

-- each point reached lies at or before n
pub reached_before : (ps : List ℕ) (n k : ℕ) → k < reached ps n → get_or ps k 0 ≤ n
unfolding reached
reached_before [] n k h = omega arith
reached_before (p ∷ ps) n zero h = elim (dec_le p n) [
  | yes i ↦ i
  | no i ↦ let g = rw (lt-leb p n (omega arith)) at h in omega arith
]
reached_before (p ∷ ps) n (suc k) h = elim (dec_le p n) [
  | yes i ↦ let g = rw (le-leb p n i) at h in reached_before ps n k (omega arith)
  | no i ↦ let g = rw (lt-leb p n (omega arith)) at h in omega arith
]

-- the next lies after n
pub reached_next : (ps : List ℕ) (n : ℕ) → reached ps n < length ps → n < get_or ps (reached ps n) 0
unfolding reached
reached_next [] n h = omega arith
reached_next (p ∷ ps) n h = elim (dec_le p n) [
  | yes i ↦ let g = rw (le-leb p n i) at h in rw (le-leb p n i) (reached_next ps n (omega arith))
  | no i ↦ rw (lt-leb p n (omega arith)) (omega arith)
]

-- up to the next point the same points are reached
pub reached_same : (ps : List ℕ) (n j : ℕ) → (reached ps n < length ps → n + j < get_or ps (reached ps n) 0) → reached ps (n + j) ≡ reached ps n
unfolding reached
reached_same [] n j h = refl
reached_same (p ∷ ps) n j h = elim (dec_le p n) [
  | yes i ↦
      let g = rw (le-leb p n i) at h in
      rw (le-leb p n i, le-leb p (n + j) (omega arith)) (ap suc (reached_same ps n j (λ k. g (omega arith))))
  | no i ↦
      let g = rw (lt-leb p n (omega arith)) at h in
      let s : n + j < p = g (omega arith) in
      rw (lt-leb p n (omega arith), lt-leb p (n + j) s)
]

-- a tie: the loop's turn, and its ends
pub one_tied : (ps : List ℕ) (i p : ℕ) → i < length ps → p ≡ get_or ps i 0 → tied p (drop i ps) ≡ suc (tied p (drop (i + 1) ps))
unfolding tied
one_tied ps i p h k = rw (add-one i, drop-cons ps i 0 h, eq-eqb _ _ k)

pub no_tied : (ps : List ℕ) (i p : ℕ) → i < length ps → (p ≡ get_or ps i 0 → ⊥) → tied p (drop i ps) ≡ 0
unfolding tied
no_tied ps i p h k = rw (drop-cons ps i 0 h, ne_eqb _ _ k)

pub none_tied : (ps : List ℕ) (i p : ℕ) → length ps ≤ i → tied p (drop i ps) ≡ 0
unfolding tied
none_tied ps i p h = rw (drop_of_length-le ps h)

tied_most : (p : ℕ) (ps : List ℕ) → tied p ps ≤ length ps
unfolding tied
tied_most p [] = omega arith
tied_most p (q ∷ ps) = elim (ℕ_discrete p q) [
  | yes e ↦ rw (eq-eqb p q e) (omega (arith, tied_most p ps))
  | no h ↦ rw (ne_eqb p q h) (omega arith)
]

-- a tie has its first point, and ends within the list
pub tie_within : (ps : List ℕ) (i : ℕ) → i < length ps → (i < tie_end ps i) × (tie_end ps i ≤ length ps)
unfolding tie_end
tie_within ps i h =
    let p = get_or ps i 0 in
    (omega (arith, one_tied ps i p h refl), omega (arith, tied_most p (drop i ps), length-drop i ps))
