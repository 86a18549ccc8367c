-- The least element of a window that slides over a history, by a queue: over any elements with a test `le` that is transitive. A history and a queue are lists, newest first.
-- The queue holds the elements of the window that no later one undercuts (`stack`); its last is the window's least. A new element takes those away that it undercuts or equals
-- (`popped`), and the one that left the window is cut off at the end (`cut`). Assumes nothing.
use Rattle.std.proofs.Common.{◌≡◌, ℕ, suc, ◌<◌, ◌≤◌, Bool, true, false, cond, not, T, leb, ◌⊎◌, List, [], ◌∷◌, ◌++◌, length, get_or, take, sym, refl, ap, ◌∙◌, subst, inl, inr, append-nil, arith, leb→le, take_all, take-suc}
use lib.Dec.{nleb→lt}
use Rattle.stage.specs.Stage.{All}
use Rattle.master.specs.Ceiling.{least}

-- each of l that is below m and below all that stand before it
unfoldable pub stairs : {E : Type 0} → (E → E → Bool) → E → List E → List E
stairs le m [] = []
stairs le m (z ∷ u) = cond (le m z) (stairs le m u) (z ∷ stairs le z u)

-- the elements that no newer one undercuts or equals
unfoldable pub stack : {E : Type 0} → (E → E → Bool) → List E → List E
stack le [] = []
stack le (x ∷ h) = x ∷ stairs le x h

-- without the elements at the front that x undercuts or equals
unfoldable pub popped : {E : Type 0} → (E → E → Bool) → E → List E → List E
popped le x [] = []
popped le x (z ∷ q) = cond (le x z) (popped le x q) (z ∷ q)

-- without the last, where it is old
unfoldable pub cut : {E : Type 0} → (E → Bool) → List E → List E
cut old [] = []
cut old (e ∷ []) = cond (old e) [] (e ∷ [])
cut old (e ∷ f ∷ q) = e ∷ cut old (f ∷ q)

-- the last of e and q
unfoldable pub last_from : {E : Type 0} → E → List E → E
last_from e [] = e
last_from e (f ∷ q) = last_from f q

abbrev Trans : {E : Type 0} → (E → E → Bool) → Type 0
Trans {E} le = (x y z : E) → T (le x y) → T (le y z) → T (le x z)

pub le_or_lt : (a b : ℕ) → (a ≤ b) ⊎ (b < a)
le_or_lt a b = go (leb a b) (leb→le a b) (nleb→lt a b)
  where
    go : (t : Bool) → (T t → a ≤ b) → (T (not t) → b < a) → (a ≤ b) ⊎ (b < a)
    go true h k = inl (h tt)
    go false h k = inr (k tt)

holds : (b : Bool) → b ≡ true → T b
holds b e = subst T (sym e) tt

module _ {E : Type 0} (le : E → E → Bool) (tr : Trans le) where
  refuted : (x y z : E) → le x y ≡ true → le y z ≡ true → le x z ≡ false → ⊥
  refuted x y z p q r = subst T r (tr x y z (holds (le x y) p) (holds (le y z) q))

  stairs_popped : (x y : E) (t : List E) → le x y ≡ true → stairs le x t ≡ popped le x (stairs le y t)
  unfolding stairs popped
  stairs_popped x y [] h = refl
  stairs_popped x y (z ∷ u) h = go (le y z) (le x z) (stairs_popped x y u h) (stairs_popped x z u) refl refl
    where
      go : (a b : Bool) → stairs le x u ≡ popped le x (stairs le y u) → (le x z ≡ true → stairs le x u ≡ popped le x (stairs le z u)) → le y z ≡ a → le x z ≡ b → cond (le x z) (stairs le x u) (z ∷ stairs le z u) ≡ popped le x (cond (le y z) (stairs le y u) (z ∷ stairs le z u))
      go true true i j p q = rw (p, q) i
      go true false i j p q = absurd (refuted x y z h p q)
      go false true i j p q = rw (p, q) (j q)
      go false false i j p q = rw (p, q) refl

  -- a new element
  pub stack_push : (x : E) (h : List E) → stack le (x ∷ h) ≡ x ∷ popped le x (stack le h)
  unfolding stack stairs popped
  stack_push x [] = refl
  stack_push x (y ∷ t) = ap (λ (q : List E). x ∷ q) (go (le x y) refl)
    where
      go : (b : Bool) → le x y ≡ b → cond (le x y) (stairs le x t) (y ∷ stairs le y t) ≡ cond (le x y) (popped le x (stairs le y t)) (y ∷ stairs le y t)
      go true e = rw e (stairs_popped x y t e)
      go false e = rw e refl

module _ {E : Type 0} (le : E → E → Bool) where
  -- the queue's last is the least
  pub last_least : (m : E) (l : List E) → last_from m (stairs le m l) ≡ least le m l
  unfolding last_from stairs least
  last_least m [] = refl
  last_least m (z ∷ u) = go (le m z) refl (last_least m u) (last_least z u)
    where
      go : (b : Bool) → le m z ≡ b → last_from m (stairs le m u) ≡ least le m u → last_from z (stairs le z u) ≡ least le z u → last_from m (cond (le m z) (stairs le m u) (z ∷ stairs le z u)) ≡ least le (cond (le m z) m z) u
      go true e i j = rw e i
      go false e i j = rw e j

  -- one more at the far end
  stairs_snoc : (m : E) (l : List E) (z : E) → stairs le m (l ++ (z ∷ [])) ≡ stairs le m l ++ cond (le (least le m l) z) [] (z ∷ [])
  unfolding stairs least
  stairs_snoc m [] z = refl
  stairs_snoc m (a ∷ l) z = go (le m a) refl (stairs_snoc m l z) (stairs_snoc a l z)
    where
      go : (b : Bool) → le m a ≡ b
          → stairs le m (l ++ (z ∷ [])) ≡ stairs le m l ++ cond (le (least le m l) z) [] (z ∷ [])
          → stairs le a (l ++ (z ∷ [])) ≡ stairs le a l ++ cond (le (least le a l) z) [] (z ∷ [])
          → cond (le m a) (stairs le m (l ++ (z ∷ []))) (a ∷ stairs le a (l ++ (z ∷ [])))
          ≡ cond (le m a) (stairs le m l) (a ∷ stairs le a l) ++ cond (le (least le (cond (le m a) m a) l) z) [] (z ∷ [])
      go true e i j = rw e i
      go false e i j = rw e (ap (λ (q : List E). a ∷ q) j)

  -- what holds of each holds of each in the queue
  stairs_all : (P : E → Type 0) (m : E) (l : List E) → All P l → All P (stairs le m l)
  unfolding stairs
  stairs_all P m [] a = tt
  stairs_all P m (z ∷ u) a = go (le m z) (stairs_all P m u a.1) (stairs_all P z u a.1)
    where
      go : (b : Bool) → All P (stairs le m u) → All P (stairs le z u) → All P (cond b (stairs le m u) (z ∷ stairs le z u))
      go true i j = i
      go false i j = (a.0, j)

-- ---- the cut
cut_snoc : {E : Type 0} (old : E → Bool) (q : List E) (z : E) → old z ≡ true → cut old (q ++ (z ∷ [])) ≡ q
unfolding cut
cut_snoc old [] z h = rw h refl
cut_snoc old (e ∷ []) z h = rw h refl
cut_snoc old (e ∷ f ∷ q) z h = ap (λ l. e ∷ l) (cut_snoc old (f ∷ q) z h)

pub cut_keeps : {E : Type 0} (old : E → Bool) (q : List E) → All (λ e. old e ≡ false) q → cut old q ≡ q
unfolding cut
cut_keeps old [] a = refl
cut_keeps old (e ∷ []) a = rw a.0 refl
cut_keeps old (e ∷ f ∷ q) a = ap (λ l. e ∷ l) (cut_keeps old (f ∷ q) a.1)

-- ---- a turn: the queue of the window of suc w elements. The element that leaves the window, if there is one, is old, and the others are not.
module _ {E : Type 0} (le : E → E → Bool) (tr : Trans le) (old : E → Bool) (d x : E) (h : List E) (w : ℕ)
    (new : All (λ e. old e ≡ false) (x ∷ take w h)) (gone : w < length h → old (get_or h w d) ≡ true) where
  at_most : stack le (x ∷ take w h) ≡ cut old (stack le (x ∷ take (suc w) h))
  unfolding stack
  at_most = elim (le_or_lt (length h) w) [ inl b ↦ fewer b | inr a ↦ more a ]
    where
      young : All (λ e. old e ≡ false) (x ∷ stairs le x (take w h))
      young = (new.0, stairs_all le (λ e. old e ≡ false) x (take w h) new.1)

      q : List E
      q = x ∷ stairs le x (take w h)

      more : w < length h → x ∷ stairs le x (take w h) ≡ cut old (x ∷ stairs le x (take (suc w) h))
      more a =
          let z : E = get_or h w d in
          rw (take-suc h w d a)
          (rw (stairs_snoc le x (take w h) z) (go z (le (least le x (take w h)) z) (gone a)))
        where
          go : (z : E) (b : Bool) → old z ≡ true → q ≡ cut old (q ++ cond b [] (z ∷ []))
          go z true o = rw append-nil (sym (cut_keeps old q young))
          go z false o = sym (cut_snoc old q z o)

      fewer : length h ≤ w → x ∷ stairs le x (take w h) ≡ cut old (x ∷ stairs le x (take (suc w) h))
      fewer b =
          let e : take (suc w) h ≡ take w h = take_all (suc w) h (omega arith) ∙ sym (take_all w h b) in
          rw e (sym (cut_keeps old q young))

  pub turn : stack le (take (suc w) (x ∷ h)) ≡ cut old (x ∷ popped le x (stack le (take (suc w) h)))
  turn = at_most ∙ ap (cut old) (stack_push le tr x (take (suc w) h))
