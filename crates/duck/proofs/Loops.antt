-- The loops over the kicks: what one more kick does, and where a loop ends. Assumes nothing.
use mathlib.Core.Path.{◌≡◌, refl, sym, ap, ◌∙◌}
use mathlib.Core.Bool.{Bool, true, false, cond, ◌&&◌, and-eq-true_iff}
use Prim.Native.Nat.{ℕ, zero, suc, ◌+◌, ◌-◌, ◌<◌, ◌≤◌}
use native.Mathlib.Omega.{arith}
use native.Mathlib.Nat.{zero-add, suc-add}
use native.Mathlib.Numerals.{add-one}
use mathlib.Core.List.{List, [], ◌∷◌, ◌++◌, map, append_assoc}
use lib.Dec.{leb}
use lib.ListN.{length, take, drop, get_or, set, replicate, length-append, length-set, length-map, length-drop, length-replicate, replicate-append-replicate, drop_of_length-le, get_or-map}
use lib.Seq.{drop-cons, get_or-take, get_or-drop, length-take-le, take-suc, take-length, take-append_seam, append_snoc, set_at, set-append_left}
use Rattle.std.proofs.lemmas.List.{drop-map}
use mir.Val.{bool_byte}
use lib.Ieee.{Float}
use borrow.Author.Tests.{leb-true, le-leb, lt-leb}
use Rattle.casts.specs.Arithmetic.{one}
use Rattle.stage.specs.Stage.{Step}
use Rattle.sidechain.specs.declared.DuckRate.{DuckRate}
use Rattle.sidechain.specs.Sidechain.{span, releases}
use Rattle.ranges.specs.Ranges.{most_kicks}
use Rattle.duck.specs.Cursors.{DuckIn, duck_on, laid, is_mark, flag, kicks_in, marks_in, Reached, reached_at, reach, released, times_gain, times_until, gave, gain_on, Within, duck_counts}

-- ---- the kicks laid and unmarked, one after the other

put_turn : (ks u : List ℕ) (j : ℕ) → j < length ks → j < length u → set (take j ks ++ drop j u) j (get_or ks j 0) ≡ take (j + 1) ks ++ drop (j + 1) u
put_turn ks u j h k =
    ap (λ (l : List ℕ). set (take j ks ++ l) j (get_or ks j 0)) (drop-cons u j 0 k)
    ∙ set_at (take j ks) (get_or u j 0) (drop (suc j) u) (get_or ks j 0) j (length-take-le j ks (omega arith))
    ∙ rw (add-one j, take-suc ks j 0 h, append_snoc)

clear_turn : (u : List ℕ) (j : ℕ) → j < length u → set (replicate j 0 ++ drop j u) j 0 ≡ replicate (j + 1) 0 ++ drop (j + 1) u
clear_turn u j k =
    ap (λ (l : List ℕ). set (replicate j 0 ++ l) j 0) (drop-cons u j 0 k)
    ∙ set_at (replicate j 0) (get_or u j 0) (drop (suc j) u) 0 j (length-replicate {A = ℕ} j 0)
    ∙ rw (← replicate-append-replicate {A = ℕ} j 1 0, append_snoc, add-one j)

set_behind : (xs ys : List ℕ) (i n v : ℕ) → length xs ≡ n → set (xs ++ ys) (n + i) v ≡ xs ++ set ys i v
set_behind xs ys i n v e = rw (← e) (go xs)
  where
    go : (xs : List ℕ) → set (xs ++ ys) (length xs + i) v ≡ xs ++ set ys i v
    go [] = rw (zero-add i)
    go (x ∷ xs) = rw (suc-add (length xs) i) (ap (λ (l : List ℕ). x ∷ l) (go xs))

-- the first j of them
abbrev pub laid_up_to : ℕ → List ℕ → List ℕ → List ℕ
laid_up_to j ks u = (take j ks ++ drop j (take most_kicks u)) ++ (replicate j 0 ++ drop j (drop most_kicks u))

module _ (ks u : List ℕ) (few : length ks ≤ most_kicks) (wide : duck_counts ≤ length u) where
  front_length : (j : ℕ) → j ≤ length ks → length (take j ks ++ drop j (take most_kicks u)) ≡ most_kicks
  front_length j h =
      let a = length-take-le j ks h in
      let b = length-take-le most_kicks u (omega arith) in
      let c = length-drop j (take most_kicks u) in
      length-append (take j ks) (drop j (take most_kicks u)) ∙ omega arith

  pub laid_turn : (j : ℕ) → j < length ks → set (set (laid_up_to j ks u) j (get_or ks j 0)) (most_kicks + j) 0 ≡ laid_up_to (j + 1) ks u
  laid_turn j h =
      let front = take j ks ++ drop j (take most_kicks u) in
      let next = take (j + 1) ks ++ drop (j + 1) (take most_kicks u) in
      let marks = replicate j 0 ++ drop j (drop most_kicks u) in
      let a = front_length j (omega arith) in
      let b = length-take-le most_kicks u (omega arith) in
      let c = length-drop most_kicks u in
      ap (λ (l : List ℕ). set l (most_kicks + j) 0) (set-append_left front marks j (get_or ks j 0) (omega arith) ∙ ap (λ (l : List ℕ). l ++ marks) (put_turn ks (take most_kicks u) j h (omega arith)))
      ∙ set_behind next marks j most_kicks 0 (front_length (j + 1) (omega arith))
      ∙ ap (λ (l : List ℕ). next ++ l) (clear_turn (drop most_kicks u) j (omega arith))

  pub laid_length : length (laid ks u).part ≡ length u
  laid_length =
      let front = ks ++ drop (length ks) (take most_kicks u) in
      let a : length front ≡ most_kicks = rw (take-length ks) at (front_length (length ks) (omega arith)) in
      let b = length-replicate {A = ℕ} (length ks) 0 in
      let c = length-drop (length ks) (drop most_kicks u) in
      let d = length-drop most_kicks u in
      let e = length-append {A = ℕ} (replicate (length ks) 0) (drop (length ks) (drop most_kicks u)) in
      length-append front (replicate (length ks) 0 ++ drop (length ks) (drop most_kicks u)) ∙ omega arith

  pub laid_kicks : kicks_in (length ks) (laid ks u).part ≡ ks
  laid_kicks = rw (append_assoc ks) (take-append_seam ks _)

-- ---- the tests of a kick

-- a kick whose attack is over
pub attacked_says : (attack kick n : ℕ) → leb kick n && leb attack (n - kick) ≡ true → (kick ≤ n) × (attack ≤ n - kick)
attacked_says attack kick n e = let a = (and-eq-true_iff (leb kick n) _).0 e in (leb-true kick n a.0, leb-true attack (n - kick) a.1)

-- a kick that sounds
pub sounds_says : (r : DuckRate) (mark kick n : ℕ) → is_mark mark && (leb kick n && releases r (n - kick)) ≡ true → (is_mark mark ≡ true) × (kick ≤ n) × (releases r (n - kick) ≡ true)
sounds_says r mark kick n e =
    let a = (and-eq-true_iff (is_mark mark) _).0 e in
    let b = (and-eq-true_iff (leb kick n) _).0 a.1 in
    (a.0, leb-true kick n b.0, b.1)

-- ---- marking

pub flag_is : (d : Bool) → bool_byte d ≡ flag d
flag_is true = refl
flag_is false = refl

module _ (count : ℕ) (u : List ℕ) (c n : ℕ) (d : Bool) where
  pub reach_more : c < count → get_or u c 0 ≤ n → reach (count - (c + 1)) (c + 1) n d (set u (most_kicks + c) (flag d)) ≡ reach (count - c) c n d u
  unfolding reach
  reach_more h e = let s : count - c ≡ suc (count - (c + 1)) = omega arith in rw (s, le-leb (get_or u c 0) n e)

  pub reach_stop : c < count → n < get_or u c 0 → reached_at c u ≡ reach (count - c) c n d u
  unfolding reach
  reach_stop h e = let s : count - c ≡ suc (count - (c + 1)) = omega arith in rw (s, lt-leb (get_or u c 0) n e)

  pub reach_done : count ≤ c → reached_at c u ≡ reach (count - c) c n d u
  unfolding reach
  reach_done h = let s : count - c ≡ 0 = omega arith in rw s

-- ---- the kicks in use and their marks

module _ (count : ℕ) (u : List ℕ) (few : count ≤ most_kicks) (wide : duck_counts ≤ length u) where
  pub kicks_length : length (kicks_in count u) ≡ count
  kicks_length = length-take-le count u (omega arith)

  pub marks_length : length (marks_in count u) ≡ count
  marks_length = length-map (take count (drop most_kicks u)) is_mark ∙ length-take-le count (drop most_kicks u) (rw length-drop (omega arith))

  pub marks_get : (j : ℕ) → j < count → get_or (marks_in count u) j false ≡ is_mark (get_or u (most_kicks + j) 0)
  marks_get j h = get_or-map is_mark (take count (drop most_kicks u)) j 0 ∙ ap is_mark (get_or-take count (drop most_kicks u) j 0 h ∙ get_or-drop most_kicks u j 0)

  kicks_cons : (c : ℕ) → c < count → drop c (kicks_in count u) ≡ get_or u c 0 ∷ drop (c + 1) (kicks_in count u)
  kicks_cons c h = let k = kicks_length in rw (drop-cons (kicks_in count u) c 0 (omega arith), get_or-take count u c 0 h, add-one c)

  kicks_over : (c : ℕ) → count ≤ c → drop c (kicks_in count u) ≡ []
  kicks_over c h = let k : length (kicks_in count u) ≤ c = rw kicks_length h in drop_of_length-le (kicks_in count u) k

  module _ (r : DuckRate) (n c : ℕ) where
    -- those that have released
    pub released_more : c < count → leb (get_or u c 0 + span r) n ≡ true → c + 1 + released r n (drop (c + 1) (kicks_in count u)) ≡ c + released r n (drop c (kicks_in count u))
    unfolding released
    released_more h e = rw (kicks_cons c h, e) (omega arith)

    pub released_stop : c < count → leb (get_or u c 0 + span r) n ≡ false → c ≡ c + released r n (drop c (kicks_in count u))
    unfolding released
    released_stop h e = rw (kicks_cons c h, e) (omega arith)

    pub released_done : count ≤ c → c ≡ c + released r n (drop c (kicks_in count u))
    unfolding released
    released_done h = rw (kicks_over c h) (omega arith)

-- ---- the product, of kicks and their marks

module _ (r : DuckRate) (n : ℕ) (g : Float) where
  times_step : (k m : ℕ) (ks ms : List ℕ) → k ≤ n → times_until r n (times_gain r g (n - k) (is_mark m)) ks (map is_mark ms) ≡ times_until r n g (k ∷ ks) (map is_mark (m ∷ ms))
  unfolding times_until
  times_step k m ks ms e = rw (le-leb k n e)

  times_halt : (k : ℕ) (ks ms : List ℕ) → n < k → g ≡ times_until r n g (k ∷ ks) (map is_mark ms)
  unfolding times_until
  times_halt k ks [] e = refl
  times_halt k ks (m ∷ ms) e = rw (lt-leb k n e)

module _ (ks ms : List ℕ) (same : length ks ≡ length ms) (r : DuckRate) (n c : ℕ) where
  pub times_more : (g : Float) → c < length ks → get_or ks c 0 ≤ n
      → times_until r n (times_gain r g (n - get_or ks c 0) (is_mark (get_or ms c 0))) (drop (c + 1) ks) (drop (c + 1) (map is_mark ms))
      ≡ times_until r n g (drop c ks) (drop c (map is_mark ms))
  times_more g h e = rw (drop-map is_mark (c + 1) ms, drop-map is_mark c ms, drop-cons ks c 0 h, drop-cons ms c 0 (rw same at h), add-one c) (times_step r n g (get_or ks c 0) (get_or ms c 0) (drop (suc c) ks) (drop (suc c) ms) e)

module _ (ks ms : List ℕ) (r : DuckRate) (n c : ℕ) (g : Float) where
  pub times_stop : c < length ks → n < get_or ks c 0 → g ≡ times_until r n g (drop c ks) (drop c (map is_mark ms))
  times_stop h e = rw (drop-map is_mark c ms, drop-cons ks c 0 h) (times_halt r n g (get_or ks c 0) (drop (suc c) ks) (drop c ms) e)

  pub times_done : length ks ≤ c → g ≡ times_until r n g (drop c ks) (drop c (map is_mark ms))
  unfolding times_until
  times_done h = rw (drop_of_length-le ks h)

-- two marked kicks of the product
pub times_two_more : (ks ms : List ℕ) → length ks ≡ length ms → (r : DuckRate) (n c : ℕ) (g : Float) → c + 1 < length ks → get_or ks c 0 ≤ n → get_or ks (c + 1) 0 ≤ n
    → is_mark (get_or ms c 0) ≡ true → is_mark (get_or ms (c + 1) 0) ≡ true
    → times_until r n (times_gain r (times_gain r g (n - get_or ks c 0) true) (n - get_or ks (c + 1) 0) true) (drop (c + 2) ks) (drop (c + 2) (map is_mark ms))
    ≡ times_until r n g (drop c ks) (drop c (map is_mark ms))
times_two_more ks ms same r n c g h e f marked marked' =
    let next : c + 2 ≡ c + 1 + 1 = omega arith in
    let first = rw marked at (times_more ks ms same r n c g (omega arith) e) in
    let second = rw marked' at (times_more ks ms same r n (c + 1) (times_gain r g (n - get_or ks c 0) true) h f) in
    rw next (second ∙ first)

-- ---- a sample keeps the cursors within their list

reach_sized : (f c n : ℕ) (d : Bool) (u : List ℕ) → length (reach f c n d u).part ≡ length u
unfolding reach
reach_sized zero c n d u = refl
reach_sized (suc f) c n d u = by (leb (get_or u c 0) n) (reach_sized f (c + 1) n d (set u (most_kicks + c) (flag d)) ∙ length-set u (most_kicks + c) (flag d))
  where
    by : (b : Bool) → length (reach f (c + 1) n d (set u (most_kicks + c) (flag d))).part ≡ length u
        → length (cond b (reach f (c + 1) n d (set u (most_kicks + c) (flag d))) (reached_at c u)).part ≡ length u
    by true h = h
    by false h = refl

reach_within : (f c n : ℕ) (d : Bool) (u : List ℕ) → (reach f c n d u).cursor ≤ c + f
unfolding reach
reach_within zero c n d u = omega arith
reach_within (suc f) c n d u = by (leb (get_or u c 0) n) (reach_within f (c + 1) n d (set u (most_kicks + c) (flag d)))
  where
    by : (b : Bool) → (reach f (c + 1) n d (set u (most_kicks + c) (flag d))).cursor ≤ c + 1 + f
        → (cond b (reach f (c + 1) n d (set u (most_kicks + c) (flag d))) (reached_at c u)).cursor ≤ c + suc f
    by true h = omega arith
    by false h = omega arith

reach_from : (f c n : ℕ) (d : Bool) (u : List ℕ) → c ≤ (reach f c n d u).cursor
unfolding reach
reach_from zero c n d u = omega arith
reach_from (suc f) c n d u = by (leb (get_or u c 0) n) (reach_from f (c + 1) n d (set u (most_kicks + c) (flag d)))
  where
    by : (b : Bool) → c + 1 ≤ (reach f (c + 1) n d (set u (most_kicks + c) (flag d))).cursor → c ≤ (cond b (reach f (c + 1) n d (set u (most_kicks + c) (flag d))) (reached_at c u)).cursor
    by true h = omega arith
    by false h = omega arith

-- a cursor that stays has marked none
reach_none : (f c n : ℕ) (d : Bool) (u : List ℕ) → (reach f c n d u).cursor ≡ c → (reach f c n d u).part ≡ u
unfolding reach
reach_none zero c n d u e = refl
reach_none (suc f) c n d u e = by (leb (get_or u c 0) n) e (reach_from f (c + 1) n d (set u (most_kicks + c) (flag d)))
  where
    by : (b : Bool) → (cond b (reach f (c + 1) n d (set u (most_kicks + c) (flag d))) (reached_at c u)).cursor ≡ c → c + 1 ≤ (reach f (c + 1) n d (set u (most_kicks + c) (flag d))).cursor
        → (cond b (reach f (c + 1) n d (set u (most_kicks + c) (flag d))) (reached_at c u)).part ≡ u
    by true e h = absurd (omega arith)
    by false e h = refl

released_few : (r : DuckRate) (n : ℕ) (ks : List ℕ) → released r n ks ≤ length ks
unfolding released
released_few r n [] = omega arith
released_few r n (k ∷ ks) = by (leb (k + span r) n) (released_few r n ks)
  where
    by : (b : Bool) → released r n ks ≤ length ks → cond b (released r n ks + 1) 0 ≤ suc (length ks)
    by true h = omega arith
    by false h = omega arith

pub released_within : (count : ℕ) (u : List ℕ) (r : DuckRate) (n c : ℕ) → count ≤ most_kicks → duck_counts ≤ length u → c ≤ count → c + released r n (drop c (kicks_in count u)) ≤ count
released_within count u r n c few wide h =
    let k = kicks_length count u few wide in
    let f = released_few r n (drop c (kicks_in count u)) in
    let g = length-drop c (kicks_in count u) in
    omega arith

pub gain_sized : (r : DuckRate) (d : Bool) (n : ℕ) (s : DuckIn) → length (gain_on r d n s).next.part ≡ length s.part
unfolding gain_on
gain_sized r d n s = reach_sized (s.duck.count - s.duck.reached) s.duck.reached n d s.part

pub gain_within : (r : DuckRate) (d : Bool) (n : ℕ) (s : DuckIn) → Within s → Within (gain_on r d n s).next
unfolding gain_on
gain_within r d n s w =
    let f = s.duck.count - s.duck.reached in
    let sized = reach_sized f s.duck.reached n d s.part in
    let wide : duck_counts ≤ length (reach f s.duck.reached n d s.part).part = rw sized w.sized in
    let c = reach_within f s.duck.reached n d s.part in
    let k = w.reached in
    record {
      sized = wide;
      few = w.few;
      reached = omega arith;
      ducking = released_within s.duck.count (reach f s.duck.reached n d s.part).part r n s.duck.ducking w.few wide w.ducking;
    }

-- ---- a sample is its loops

abbrev pub product_on : DuckRate → ℕ → DuckIn → Float
product_on r n s =
    let from = s.duck.ducking in
    times_until r n one (drop from (kicks_in s.duck.count s.part)) (drop from (marks_in s.duck.count s.part))

module _ (r : DuckRate) (d : Bool) (n : ℕ) (s : DuckIn) where
  abbrev on : Reached → DuckIn
  on m =
      let from = s.duck.ducking + released r n (drop s.duck.ducking (kicks_in s.duck.count m.part)) in
      duck_on (record { count = s.duck.count; reached = m.cursor; ducking = from }) m.part

  pub moved_is : (m : ℕ) (u : List ℕ) (from : ℕ) → reached_at m u ≡ reach (s.duck.count - s.duck.reached) s.duck.reached n d s.part
      → from ≡ s.duck.ducking + released r n (drop s.duck.ducking (kicks_in s.duck.count u))
      → duck_on (record { count = s.duck.count; reached = m; ducking = from }) u ≡ (gain_on r d n s).next
  unfolding gain_on
  moved_is m u from e f = rw f (ap on e)

  pub gain_is : (t : DuckIn) (g : Float) → t ≡ (gain_on r d n s).next → g ≡ product_on r n t → gave t.duck t.part g ≡ gain_on r d n s
  unfolding gain_on
  gain_is t g e f = rw (f, e)

  -- cursors that stay where they are leave all as it is
  pub stays : (t : DuckIn) → t ≡ (gain_on r d n s).next → t.duck.reached ≡ s.duck.reached → t.duck.ducking ≡ s.duck.ducking → t ≡ s
  unfolding gain_on
  stays t e f g =
      let count : t.duck.count ≡ s.duck.count = ap (λ (x : DuckIn). x.duck.count) e in
      let part : t.part ≡ s.part =
      ap (λ (x : DuckIn). x.part) e ∙ reach_none (s.duck.count - s.duck.reached) s.duck.reached n d s.part (sym (ap (λ (x : DuckIn). x.duck.reached) e) ∙ f) in
      let same : duck_on (record { count = t.duck.count; reached = t.duck.reached; ducking = t.duck.ducking }) t.part
      ≡ duck_on (record { count = s.duck.count; reached = s.duck.reached; ducking = s.duck.ducking }) s.part = rw (count, f, g, part) in
      same

pub two_are : (r : DuckRate) (d : Bool) (n : ℕ) (s t u : DuckIn) (at after : Float) → t ≡ (gain_on r d n s).next → at ≡ product_on r n t
    → u ≡ (gain_on r d (n + 1) t).next → after ≡ product_on r (n + 1) u
    → (at ≡ (gain_on r d n s).out) × (gave u.duck u.part after ≡ gain_on r d (n + 1) (gain_on r d n s).next)
two_are r d n s t u at after e f g h = (ap (λ (o : Step DuckIn Float). o.out) (gain_is r d n s t at e f), gain_is r d (n + 1) t u after g h ∙ ap (gain_on r d (n + 1)) e)
