-- The loops and the returns of `well_formed`. Assumes nothing.
use Rattle.std.proofs.Common.{◌≡◌, ℕ, zero, suc, ◌+◌, ◌-◌, ◌*◌, ◌/◌, ◌%◌, ◌<◌, ◌≤◌, Bool, true, false, ◌&&◌, T, eqb, leb, List, [], ◌∷◌, ◌++◌, length, get_or, take, drop, sym, refl, ap, ◌∙◌, subst, add-zero, add-suc, mod-eq_of_lt, arith, leb→le, length-drop, get_or-drop, take-suc, eq-eqb, ne_eqb, le-leb}
use mathlib.Core.Bool.{and-true, and_assoc}
use native.Mathlib.Nat.{add-mod_left}
use native.Mathlib.Decide.{dec_lt}
use borrow.Author.Tests.{lt-leb}
use lib.Ieee.{Float, nan}
use Rattle.casts.specs.Arithmetic.{nought, one}
use Rattle.ranges.specs.Ranges.{all_in_range}
use Rattle.rate.specs.Ceiling.{unit}
use Rattle.master.specs.WellFormed.{in_unit, every, needs_in, steps_in, sum_at}
use Rattle.std.proofs.Common.{mod-lt, length-take-le, get_or-take}
use Rattle.std.proofs.lemmas.List.Folds.{sum_by-zero, list_all-append}
use Rattle.std.proofs.lemmas.List.Sums.{sum_by-le, sum_by_push, AllPass-from_list_all}
use Rattle.std.proofs.lemmas.List.Elements.{All-weaker}
use Rattle.std.specs.List.{sum, sum_by, list_all}

pub every_none : (t : ℕ → Bool) → every t 0 ≡ true
unfolding every
every_none t = refl

-- ---- the needs, by the parts of the ring that they lie in

all_snoc : (xs : List Float) (x : Float) → all_in_range nought one (xs ++ (x ∷ [])) ≡ (all_in_range nought one xs && in_unit x)
unfolding all_in_range
all_snoc [] x = and-true (in_unit x)
all_snoc (y ∷ ys) x = ap (λ (b : Bool). in_unit y && b) (all_snoc ys x) ∙ sym (and_assoc (in_unit y) (all_in_range nought one ys) (in_unit x))

every_part : (t : ℕ → Bool) (xs : List Float) (k : ℕ) → k ≤ length xs → ((j : ℕ) → j < k → t j ≡ in_unit (get_or xs j nan)) → every t k ≡ all_in_range nought one (take k xs)
unfolding every all_in_range
every_part t xs zero h f = refl
every_part t xs (suc k) h f = rw (take-suc xs k nan h, all_snoc (take k xs) (get_or xs k nan), every_part t xs k (omega arith) (λ j g. f j (omega arith)), f k (omega arith))

every_split : (t : ℕ → Bool) (a b : ℕ) → every t (a + b) ≡ (every t a && every (λ j. t (a + j)) b)
unfolding every
every_split t a zero = rw (add-zero a) (sym (and-true (every t a)))
every_split t a (suc b) = rw (add-suc a b, every_split t a b, and_assoc (every t a))

every_same : (t u : ℕ → Bool) (k : ℕ) → ((j : ℕ) → j < k → t j ≡ u j) → every t k ≡ every u k
unfolding every
every_same t u zero h = refl
every_same t u (suc k) h = rw (h k (omega arith), every_same t u k (λ j g. h j (omega arith)))

module _ (l : List Float) (head len : ℕ) (h : head < length l) where
  abbrev queued : ℕ → Bool
  queued j = in_unit (get_or l ((head + j) % length l) nan)

  low : (k : ℕ) → head + k ≤ length l → every queued k ≡ all_in_range nought one (take k (drop head l))
  low k e =
      every_part queued (drop head l) k (rw (length-drop head l) (omega arith))
      (λ j g. rw (get_or-drop head l j nan, mod-eq_of_lt {n = head + j} {m = length l} (omega arith)))

  pub needs_low : head + len ≤ length l → all_in_range nought one (take (head + len - head) (drop head l)) ≡ needs_in l (length l) head len
  needs_low e = let q : head + len - head ≡ len = omega arith in rw q (sym (low len e))

  pub needs_around : length l < head + len → len ≤ length l → needs_in l (length l) head len ≡ (all_in_range nought one (take (length l - head) (drop head l)) && all_in_range nought one (take (head + len - length l) l))
  needs_around e s =
      let q : len ≡ (length l - head) + (head + len - length l) = omega arith in
      ap (every queued) q
      ∙ every_split queued (length l - head) (head + len - length l)
      ∙ rw (low (length l - head) (omega arith), every_part (λ j. queued (length l - head + j)) l (head + len - length l) (omega arith) round)
    where
      round : (j : ℕ) → j < head + len - length l → queued (length l - head + j) ≡ in_unit (get_or l j nan)
      round j g = ap (λ (i : ℕ). in_unit (get_or l i nan)) (let r : head + (length l - head + j) ≡ length l + j = omega arith in rw (r, add-mod_left (length l) j) (mod-eq_of_lt {n = j} {m = length l} (omega arith)))

-- the queue's places alone
pub needs_part : (l : List Float) (P head len : ℕ) → P ≤ length l → head < P → needs_in (take P l) (length (take P l)) head len ≡ needs_in l P head len
needs_part l P head len h g = rw (length-take-le P l h) (every_same _ _ len (λ j e. ap in_unit (get_or-take P l ((head + j) % P) nan (mod-lt _ (omega arith)))))

-- ---- the steps, by a sum that is 0 where none is above

pub above_test : (x : ℕ) → eqb ((x - x / 1099511627776) / 1099511627776) 0 ≡ leb x 1099511627776
above_test x = elim (dec_lt 1099511627776 x) [
  | yes h ↦ ne_eqb ((x - x / 1099511627776) / 1099511627776) 0 (λ e. omega arith) ∙ sym (lt-leb x 1099511627776 h)
  | no h ↦ eq-eqb ((x - x / 1099511627776) / 1099511627776) 0 (omega arith) ∙ sym (le-leb x 1099511627776 (omega arith))
]

pub over_none : (l : List ℕ) → eqb (sum_by (λ x. (x - x / 1099511627776) / 1099511627776) l) 0 ≡ list_all (λ x. leb x unit) l
over_none l = sum_by-zero (λ x. (x - x / 1099511627776) / 1099511627776) l ∙ go l
  where
    go : (l : List ℕ) → list_all (λ x. eqb ((x - x / 1099511627776) / 1099511627776) 0) l ≡ list_all (λ x. leb x unit) l
    go [] = refl
    go (x ∷ l) = rw (above_test x, go l)

pub sum_small : (l : List ℕ) → list_all (λ x. leb x unit) l ≡ true → sum l ≤ length l * unit
sum_small l h = sum_by-le (λ x. x) unit l (All-weaker (λ x. leb x unit ≡ true) (λ x. x ≤ unit) (λ x e. leb→le x unit (subst T (sym e) tt)) l (AllPass-from_list_all (λ x. leb x unit) l h))

-- the steps by their places, and as the list of them
pub steps_part : (l : List ℕ) (b k : ℕ) → b + k ≤ length l → list_all (λ x. leb x unit) (take k (drop b l)) ≡ steps_in l b k
unfolding every
steps_part l b zero h = refl
steps_part l b (suc k) h =
    let g : k < length (drop b l) = rw (length-drop b l) (omega arith) in
    rw (take-suc (drop b l) k 0 g, list_all-append (λ x. leb x unit), steps_part l b k (omega arith), get_or-drop b l k 0) (ap (λ (x : Bool). steps_in l b k && x) (and-true (leb (get_or l (b + k) 0) unit)))

pub sum_part : (l : List ℕ) (b k : ℕ) → b + k ≤ length l → sum (take k (drop b l)) ≡ sum_at l b k
unfolding sum_at
sum_part l b zero h = refl
sum_part l b (suc k) h =
    let g : k < length (drop b l) = rw (length-drop b l) (omega arith) in
    rw (take-suc (drop b l) k 0 g, sum_by_push (λ x. x) (take k (drop b l)) (get_or (drop b l) k 0), sum_part l b k (omega arith), get_or-drop b l k 0)

-- ---- a chain of tests
pub pass : (z x v : Bool) → z ≡ true → v ≡ x → v ≡ (z && x)
pass z x v p q = rw p q

pub stop : (z x : Bool) → z ≡ false → false ≡ (z && x)
stop z x p = rw p

-- ---- `well_formed`, by what the code tests
pub counted_part : (l : List ℕ) (P e k count : ℕ) → e ≡ P + k → e ≤ length l
    → (list_all (λ x. leb x unit) (take (e - P) (drop P l)) && eqb count (sum (take (e - P) (drop P l)))) ≡ (steps_in l P k && eqb count (sum_at l P k))
counted_part l P e k count q h =
    let m : e - P ≡ k = omega arith in
    let g : P + k ≤ length l = omega arith in
    rw (m, steps_part l P k g, sum_part l P k g) refl
