-- The sliding least in a ring: entries are (frame number, value), in P = window + 1 places. One turn of the code's queue takes the queue of a past to that of the past with one more value,
-- and the value at the new head is the least of the window. Over any values with a transitive test. Assumes nothing.
use Rattle.std.proofs.Common.{◌≡◌, ℕ, zero, suc, ◌+◌, ◌%◌, ◌<◌, ◌≤◌, Bool, true, false, cond, ◌||◌, T, leb, List, [], ◌∷◌, length, get_or, take, sym, refl, ap, ◌∙◌, subst, le_trans, le_refl, le_of_suc-le-suc, not-suc-le-zero, mod-lt, add-one, arith, le-ltb, le-leb}
use borrow.Author.Tests.{lt-leb}
use Rattle.stage.specs.Stage.{All}
use Rattle.master.specs.Ceiling.{least}
use Rattle.master.specs.Kept.{pop_len, drops}
use Rattle.master.proofs.Window.{stairs, stack, popped, cut, last_from, last_least, turn}
use Rattle.master.proofs.Rings.{Queued, pops, pushes, oldest, cut_length, cut_queued, cut_young}

-- each value of a past with its number: how many came before it
unfoldable pub tagged : {A : Type 0} → List A → List (ℕ × A)
tagged [] = []
tagged (x ∷ h) = (length h, x) ∷ tagged h

abbrev pub le_e : {A : Type 0} → (A → A → Bool) → (ℕ × A) → (ℕ × A) → Bool
le_e le a b = le a.1 b.1

-- at the frame n, the entry's frame is out of the window W
abbrev pub old : {A : Type 0} → ℕ → ℕ → (ℕ × A) → Bool
old W n e = leb (e.0 + W) n

-- the queue: those of the last W that no later one undercuts or equals
unfoldable pub queue_of : {A : Type 0} → (A → A → Bool) → ℕ → List A → List (ℕ × A)
unfolding stack tagged
queue_of le W h = stack (le_e le) (take W (tagged h))

tagged_length : {A : Type 0} (h : List A) → length (tagged h) ≡ length h
unfolding tagged
tagged_length [] = refl
tagged_length (x ∷ h) = ap suc (tagged_length h)

-- the values of the tagged are the past
least_tagged : {A : Type 0} (le : A → A → Bool) (m : ℕ × A) (h : List A) (k : ℕ) → (least (le_e le) m (take k (tagged h))).1 ≡ least le m.1 (take k h)
unfolding least tagged
least_tagged le m [] zero = refl
least_tagged le m [] (suc k) = refl
least_tagged le m (x ∷ h) zero = refl
least_tagged le m (x ∷ h) (suc k) = least_tagged le (cond (le m.1 x) m (length h, x)) h k ∙ ap (λ v. least le v (take k h)) (go (le m.1 x))
  where
    go : (b : Bool) → (cond b m (length h, x)).1 ≡ cond b m.1 x
    go true = refl
    go false = refl

-- which are old
young : {A : Type 0} (W n k w : ℕ) (h : List A) → n ≡ length h + k → k + w < W → All (λ (e : ℕ × A). old W n e ≡ false) (take w (tagged h))
unfolding tagged
young W n k zero h e l = tt
young W n k (suc w) [] e l = tt
young W n k (suc w) (x ∷ h) e l = (lt-leb (length h + W) n (omega arith), young W n (suc k) w h (omega arith) (omega arith))

left : {A : Type 0} (W n k w : ℕ) (h : List A) (d : ℕ × A) → n ≡ length h + k → k + suc w ≡ W → w < length (tagged h) → old W n (get_or (tagged h) w d) ≡ true
unfolding tagged
left W n k w [] d e l i = absurd (not-suc-le-zero i)
left W n k zero (x ∷ h) d e l i = le-leb (length h + W) n (omega arith)
left W n k (suc w) (x ∷ h) d e l i = left W n (suc k) w h d (omega arith) (omega arith) (le_of_suc-le-suc i)

-- how long it is
stairs_length : {E : Type 0} (le : E → E → Bool) (m : E) (l : List E) → length (stairs le m l) ≤ length l
unfolding stairs
stairs_length le m [] = le_refl 0
stairs_length le m (z ∷ u) = go (le m z) (stairs_length le m u) (stairs_length le z u)
  where
    go : (b : Bool) → length (stairs le m u) ≤ length u → length (stairs le z u) ≤ length u → length (cond b (stairs le m u) (z ∷ stairs le z u)) ≤ suc (length u)
    go true i j = omega arith
    go false i j = omega arith

stack_length : {E : Type 0} (le : E → E → Bool) (l : List E) → length (stack le l) ≤ length l
unfolding stack
stack_length le [] = le_refl 0
stack_length le (x ∷ l) = more (length (stairs le x l)) (length l) (stairs_length le x l)
  where
    more : (a b : ℕ) → a ≤ b → suc a ≤ suc b
    more a b h = omega arith

take_length_le : {E : Type 0} (k : ℕ) (l : List E) → length (take k l) ≤ k
take_length_le zero l = le_refl 0
take_length_le (suc k) [] = omega arith
take_length_le (suc k) (x ∷ l) = more (length (take k l)) k (take_length_le k l)
  where
    more : (a b : ℕ) → a ≤ b → suc a ≤ suc b
    more a b h = omega arith

popped_length : {E : Type 0} (le : E → E → Bool) (x : E) (q : List E) → length (popped le x q) ≤ length q
unfolding popped
popped_length le x [] = le_refl 0
popped_length le x (z ∷ q) = go (le x z) (popped_length le x q)
  where
    go : (b : Bool) → length (popped le x q) ≤ length q → length (cond b (popped le x q) (z ∷ q)) ≤ suc (length q)
    go true i = omega arith
    go false i = le_refl (suc (length q))

pub queue_length : {A : Type 0} (le : A → A → Bool) (W : ℕ) (h : List A) → length (queue_of le W h) ≤ W
unfolding queue_of
queue_length le W h = le_trans (stack_length (le_e le) (take W (tagged h))) (take_length_le W (tagged h))

-- ---- a turn, as the code takes it
-- the ring's entries from head on are the queue of the past h, and the value at the head is `least-one`
pub record Turned {A : Type 0} (le : A → A → Bool) (W P : ℕ) (h : List A) (at : ℕ → ℕ × A) (head len : ℕ) (least-one : A) : Type 0 where
  pub at_head : head < P
  pub sized : len ≡ length (queue_of le W h)
  pub queue : Queued at P head (queue_of le W h)
  pub held : (at head).1 ≡ least-one

or_false : (b : Bool) → (b || false) ≡ b
or_false true = refl
or_false false = refl

module _ {A : Type 0} (le : A → A → Bool) (tr : (x y z : A) → T (le x y) → T (le y z) → T (le x z)) (W w P n head len₀ len : ℕ) (y : A) (h : List A) (at at' : ℕ → ℕ × A)
    (wide : W ≡ suc w) (places : P ≡ W + 1) (within : head < P) (numbered : n ≡ length h) (sized₀ : len₀ ≡ length (queue_of le W h)) (queued : Queued at P head (queue_of le W h))
    (left_is : len ≡ pop_len le P head (λ i. (at i).1) y len₀)
    (stored : at' ((head + len) % P) ≡ (n, y)) (others : (j : ℕ) → j < P → (j ≡ (head + len) % P → ⊥) → at' j ≡ at j) where
  abbrev x : ℕ × A
  x = (length h, y)

  abbrev grown : List (ℕ × A)
  grown = popped (le_e le) (length h, y) (queue_of le W h)

  popping : (len ≡ length grown) × Queued at P head grown
  popping =
      let p = pops P head (le_e le) (length h, y) at (queue_of le W h) queued in
      (left_is ∙ ap (pop_len le P head (λ i. (at i).1) y) sized₀ ∙ p.0, p.1)

  fits : length grown < P
  fits = omega (arith, popped_length (le_e le) (length h, y) (queue_of le W h), queue_length le W h)

  next_queue : queue_of le W (y ∷ h) ≡ cut (old W (length h)) (x ∷ grown)
  unfolding queue_of tagged
  next_queue =
      rw wide
      (turn (le_e le) (λ a b c. tr a.1 b.1 c.1) (old (suc w) (length h)) (length h, y) (length h, y) (tagged h) w
      (lt-leb (length h + suc w) (length h) (omega arith), young (suc w) (length h) 0 w h (omega arith) (omega arith))
      (left (suc w) (length h) 0 w h (length h, y) (omega arith) (omega arith)))

  grown_queued : Queued at' P head (x ∷ grown)
  grown_queued =
      pushes P head at at' (length h, y) grown fits (subst (λ (k : ℕ). at' ((head + k) % P) ≡ (length h, y)) popping.0 (stored ∙ ap (λ (k : ℕ). (k, y)) numbered))
      (subst (λ (k : ℕ). (j : ℕ) → j < P → (j ≡ (head + k) % P → ⊥) → at' j ≡ at j) popping.0 others) popping.1

  -- the value at the head, once the queue stands
  least_there : (head' : ℕ) → head' < P → Queued at' P head' (queue_of le W (y ∷ h)) → (at' head').1 ≡ least le y (take w h)
  unfolding queue_of stack tagged
  least_there head' k q =
      ap (λ e. e.1)
      (oldest P head' at' (length h, y) (stairs (le_e le) (length h, y) (take w (tagged h))) (rw wide at q) k ∙ last_least (le_e le) (length h, y) (take w (tagged h)))
      ∙ least_tagged le (length h, y) h w

  made : (head' len' : ℕ) → head' < P → len' ≡ length (cut (old W (length h)) (x ∷ grown)) → Queued at' P head' (cut (old W (length h)) (x ∷ grown))
      → Turned le W P (y ∷ h) at' head' len' (least le y (take w h))
  made head' len' a b c =
      let q : Queued at' P head' (queue_of le W (y ∷ h)) = subst (λ (l : List (ℕ × A)). Queued at' P head' l) (sym next_queue) c in
      record { at_head = a; sized = b ∙ ap length (sym next_queue); queue = q; held = least_there head' a q }

  drop_is : drops W P n (at' head).0 (len + 1) ≡ old W (length h) (last_from x grown)
  drop_is =
      ap (λ (m : ℕ). drops W P m (at' head).0 (len + 1)) numbered
      ∙ ap (λ (b : Bool). leb ((at' head).0 + W) (length h) || b) (le-ltb P (len + 1) (omega (arith, popping.0, fits)))
      ∙ or_false (leb ((at' head).0 + W) (length h))
      ∙ ap (λ (e : ℕ × A). leb (e.0 + W) (length h)) (oldest P head at' (length h, y) grown grown_queued within)

  pub turned : Turned le W P (y ∷ h) at' (cond (drops W P n (at' head).0 (len + 1)) ((head + 1) % P) head) (cond (drops W P n (at' head).0 (len + 1)) len (len + 1)) (least le y (take w h))
  turned = rw drop_is (go (old W (length h) (last_from x grown)) refl)
    where
      go : (b : Bool) → old W (length h) (last_from x grown) ≡ b → Turned le W P (y ∷ h) at' (cond b ((head + 1) % P) head) (cond b len (len + 1)) (least le y (take w h))
      go true e =
          made ((head + 1) % P) len (mod-lt (head + 1) (omega arith)) (popping.0 ∙ sym (cut_length (old W (length h)) (length h, y) grown e))
          (cut_queued (old W (length h)) at' P head (length h, y) grown e grown_queued)
      go false e =
          let k = cut_young (old W (length h)) (length h, y) grown e in
          made head (len + 1) within (add-one len ∙ ap suc popping.0 ∙ ap length (sym k)) (subst (λ (l : List (ℕ × A)). Queued at' P head l) (sym k) grown_queued)
