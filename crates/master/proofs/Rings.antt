-- A ring of L places that keeps the last L of a past, and a ring that keeps a queue. A store is seen as a function `at` of the place. Assumes nothing.
use Rattle.std.proofs.Common.{◌≡◌, ℕ, zero, suc, ◌+◌, ◌-◌, ◌*◌, ◌/◌, ◌%◌, ◌<◌, ◌≤◌, Bool, true, false, cond, List, [], ◌∷◌, length, get_or, sym, refl, ap, ◌∙◌, subst, inl, inr, le_refl, add-zero, mul-le-mul_right, mod-lt, mod-eq_of_lt, suc-mul, div-add-mod', arith}
use native.Mathlib.Nat.{mod-add-mod, add-mod_right, add-mul-mod_self_right}
use Rattle.master.proofs.Window.{popped, cut, last_from, le_or_lt}
use Rattle.master.specs.Kept.{count_down}

-- two numbers less than P apart have different remainders
pub apart : (P a b : ℕ) → a < b → b < a + P → a % P ≡ b % P → ⊥
apart P a b h k e = elim (le_or_lt (b / P) (a / P)) [ inl l ↦ under (mul-le-mul_right P l) | inr l ↦ over (mul-le-mul_right P l) ]
  where
    no_more : (p q m n a b : ℕ) → p + m ≡ a → q + n ≡ b → m ≡ n → q ≤ p → a < b → ⊥
    no_more p q m n a b x y z l h = omega arith

    no_less : (p q m n a b P : ℕ) → p + m ≡ a → q + n ≡ b → m ≡ n → p + P ≤ q → b < a + P → ⊥
    no_less p q m n a b P x y z l h = omega arith

    under : b / P * P ≤ a / P * P → ⊥
    under l = no_more (a / P * P) (b / P * P) (a % P) (b % P) a b (div-add-mod' a P) (div-add-mod' b P) e l h

    over : suc (a / P) * P ≤ b / P * P → ⊥
    over l = no_less (a / P * P) (b / P * P) (a % P) (b % P) a b P (div-add-mod' a P) (div-add-mod' b P) e (subst (λ (x : ℕ). x ≤ b / P * P) (suc-mul (a / P) P) l) k

-- ---- the last L of a past, n of which were written: that of age i lies at (n + (L - (i + 1))) % L
abbrev pub place : ℕ → ℕ → ℕ → ℕ
place L n i = (n + (L - suc i)) % L

-- the place of the age that is a place is the age again: so each place is that of one of the last L
pub place_twice : (L n j : ℕ) → j < L → place L n (place L n j) ≡ j
place_twice L n j h =
    let m = n + (L - suc j) in
    ap (λ (x : ℕ). x % L) (turned (m / L * L) (m % L) (div-add-mod' m L) (mod-lt m (omega arith))) ∙ add-mul-mod_self_right j (m / L) L ∙ mod-eq_of_lt h
  where
    turned : (p i : ℕ) → p + i ≡ n + (L - suc j) → i < L → n + (L - suc i) ≡ j + p
    turned p i e l = omega arith

unfoldable pub Rings : {A : Type 0} → (ℕ → A) → ℕ → A → List A → Type 0
Rings at L d h = (i : ℕ) → i < L → at (place L (length h) i) ≡ get_or h i d

-- the place that is written next holds the oldest
pub ring_oldest : {A : Type 0} (at : ℕ → A) (L : ℕ) (d : A) (h : List A) (k : ℕ) → L ≡ suc k → Rings at L d h → at (length h % L) ≡ get_or h k d
unfolding Rings
ring_oldest at L d h k e r = ap (λ (n : ℕ). at (n % L)) (oldest (length h) L k e) ∙ r k (omega arith)
  where
    oldest : (n L k : ℕ) → L ≡ suc k → n ≡ n + (L - suc k)
    oldest n L k e = omega arith

pub ring_push : {A : Type 0} (at at' : ℕ → A) (L : ℕ) (d x : A) (h : List A) → 0 < L → Rings at L d h
    → at' (length h % L) ≡ x → ((j : ℕ) → j < L → (j ≡ length h % L → ⊥) → at' j ≡ at j) → Rings at' L d (x ∷ h)
unfolding Rings
ring_push at at' L d x h p r e o zero k = ap at' (newest (length h) L p) ∙ e
  where
    newest : (n L : ℕ) → 0 < L → (suc n + (L - 1)) % L ≡ n % L
    newest n L p = ap (λ (m : ℕ). m % L) (sum n L p) ∙ add-mod_right n L
      where
        sum : (n L : ℕ) → 0 < L → suc n + (L - 1) ≡ n + L
        sum n L p = omega arith
ring_push at at' L d x h p r e o (suc i) k =
    ap (λ (m : ℕ). at' (m % L)) (older (length h) L i k)
    ∙ o (place L (length h) i) (mod-lt (length h + (L - suc i)) p) (λ q. apart L (length h) (length h + (L - suc i)) (some (length h) L i k) (fewer (length h) L i p) (sym q))
    ∙ r i (less i L k)
  where
    older : (n L i : ℕ) → suc i < L → suc n + (L - suc (suc i)) ≡ n + (L - suc i)
    older n L i k = omega arith

    some : (n L i : ℕ) → suc i < L → n < n + (L - suc i)
    some n L i k = omega arith

    fewer : (n L i : ℕ) → 0 < L → n + (L - suc i) < n + L
    fewer n L i p = omega arith

    less : (i L : ℕ) → suc i < L → i < L
    less i L k = omega arith

-- ---- a queue, newest first, in P places from head on: its oldest lies at head
abbrev pub Queued : {E : Type 0} → (ℕ → E) → ℕ → ℕ → List E → Type 0
Queued at P head [] = Unit {0}
Queued at P head (e ∷ q) = (at ((head + length q) % P) ≡ e) × Queued at P head q

module _ {E : Type 0} (P head : ℕ) where
  -- the pops
  pub pops : (le : E → E → Bool) (x : E) (at : ℕ → E) (q : List E) → Queued at P head q
      → (count_down (λ k. le x (at ((head + k) % P))) (length q) ≡ length (popped le x q)) × Queued at P head (popped le x q)
  unfolding count_down popped
  pops le x at [] r = (refl, tt)
  pops le x at (e ∷ q) r = rw r.0 (go (le x e) (pops le x at q r.1))
    where
      go : (b : Bool)
          → (count_down (λ k. le x (at ((head + k) % P))) (length q) ≡ length (popped le x q)) × Queued at P head (popped le x q)
          → (cond b (count_down (λ k. le x (at ((head + k) % P))) (length q)) (suc (length q)) ≡ length (cond b (popped le x q) (e ∷ q))) × Queued at P head (cond b (popped le x q) (e ∷ q))
      go true i = i
      go false i = (refl, r)

  -- a store at the place after the last leaves the queue
  kept : (at at' : ℕ → E) (m : ℕ) (q : List E) → length q ≤ m → m < P
      → ((j : ℕ) → j < P → (j ≡ (head + m) % P → ⊥) → at' j ≡ at j) → Queued at P head q → Queued at' P head q
  kept at at' m [] l h o r = tt
  kept at at' m (e ∷ q) l h o r = (
    o ((head + length q) % P) (mod-lt (head + length q) (pos m P h)) (λ p. apart P (head + length q) (head + m) (lower (length q) m l) (upper (length q) m h) p) ∙ r.0,
    kept at at' m q (less (length q) m l) h o r.1,
  )
    where
      pos : (m P : ℕ) → m < P → 0 < P
      pos m P h = omega arith

      lower : (k m : ℕ) → suc k ≤ m → head + k < head + m
      lower k m l = omega arith

      upper : (k m : ℕ) → m < P → head + m < head + k + P
      upper k m h = omega arith

      less : (k m : ℕ) → suc k ≤ m → k ≤ m
      less k m l = omega arith

  pub pushes : (at at' : ℕ → E) (x : E) (q : List E) → length q < P → at' ((head + length q) % P) ≡ x
      → ((j : ℕ) → j < P → (j ≡ (head + length q) % P → ⊥) → at' j ≡ at j) → Queued at P head q → Queued at' P head (x ∷ q)
  pushes at at' x q h e o r = (e, kept at at' (length q) q (le_refl (length q)) h o r)

  -- the oldest
  pub oldest : (at : ℕ → E) (e : E) (q : List E) → Queued at P head (e ∷ q) → head < P → at head ≡ last_from e q
  unfolding last_from
  oldest at e [] r h = ap at (sym (mod-eq_of_lt h) ∙ ap (λ (n : ℕ). n % P) (sym (add-zero head))) ∙ r.0
  oldest at e (f ∷ q) r h = oldest at f q r.1 h

-- the cut of an old one
pub cut_length : {E : Type 0} (old : E → Bool) (e : E) (q : List E) → old (last_from e q) ≡ true → length (cut old (e ∷ q)) ≡ length q
unfolding cut last_from
cut_length old e [] h = rw h refl
cut_length old e (f ∷ q) h = ap suc (cut_length old f q h)

pub cut_queued : {E : Type 0} (old : E → Bool) (at : ℕ → E) (P head : ℕ) (e : E) (q : List E) → old (last_from e q) ≡ true → Queued at P head (e ∷ q) → Queued at P ((head + 1) % P) (cut old (e ∷ q))
unfolding cut last_from
cut_queued old at P head e [] h r = rw h tt
cut_queued old at P head e (f ∷ q) h r = (
  ap at (ap (λ (n : ℕ). ((head + 1) % P + n) % P) (cut_length old f q h) ∙ mod-add-mod (head + 1) P (length q) ∙ ap (λ (n : ℕ). n % P) (next head (length q))) ∙ r.0,
  cut_queued old at P head f q h r.1,
)
  where
    next : (a b : ℕ) → a + 1 + b ≡ a + suc b
    next a b = omega arith

pub cut_young : {E : Type 0} (old : E → Bool) (e : E) (q : List E) → old (last_from e q) ≡ false → cut old (e ∷ q) ≡ e ∷ q
unfolding cut last_from
cut_young old e [] h = rw h refl
cut_young old e (f ∷ q) h = ap (λ l. e ∷ l) (cut_young old f q h)
