-- The duck as it is kept gives what document 01's duck gives, at every sample. Assumes nothing.
--     DuckHolds     the marks of the one and the cursors and part of the other go together
use mathlib.Core.Path.{◌≡◌, refl, sym, ap, ◌∙◌}
use mathlib.Core.Bool.{Bool, true, false, cond, ◌&&◌, and-true, and-false, and-eq-true_iff}
use Prim.Native.Nat.{ℕ, zero, suc, ◌+◌, ◌-◌, ◌<◌, ◌≤◌}
use native.Mathlib.Decide.{dec_lt}
use native.Mathlib.Omega.{arith}
use mathlib.Core.List.{List, [], ◌∷◌}
use lib.Dec.{leb, ltb, eqb}
use lib.ListN.{length, drop, get_or, set, length-set, length-drop, length-map}
use lib.Seq.{get_or-drop, get_or-set_same, get_or-set_other, take-set-le, get_or-take}
use lib.Ieee.{Float}
use borrow.Author.Tests.{leb-true, leb-false, lt-leb, lt-ltb, le-ltb, eq-eqb, ne_eqb}
use Rattle.casts.specs.Arithmetic.{◌⊗◌, one}
use Rattle.stage.proofs.Laws.{Relates}
use Rattle.sidechain.specs.declared.DuckRate.{DuckRate}
use Rattle.sidechain.specs.Sidechain.{span, sidechain_gain}
use Rattle.duck.specs.Duck.{marks_at, ducks, times_gains, unmarked, duck_step}
use Rattle.ranges.specs.Ranges.{rising_from, last_position, most_kicks}
use Rattle.duck.specs.Cursors.{DuckIn, laid, is_mark, flag, kicks_in, marks_in, Reached, reached_at, reach, released, times_until, gain_on, duck_step_on, Within, duck_formed, duck_counts}
use Rattle.duck.proofs.Loops.{laid_length, laid_kicks, kicks_length, marks_length, marks_get, gain_within}

-- ---- a list that never falls

Sorted : List ℕ → Type 0
Sorted l = (i j : ℕ) → i ≤ j → j < length l → get_or l i 0 ≤ get_or l j 0

rising_low : (b : ℕ) (l : List ℕ) → rising_from b l ≡ true → (j : ℕ) → j < length l → b ≤ get_or l j 0
unfolding rising_from
rising_low b [] e j h = absurd (omega arith)
rising_low b (k ∷ l) e zero h = leb-true b k ((and-eq-true_iff (leb b k) _).0 e).0
rising_low b (k ∷ l) e (suc j) h =
    let f = (and-eq-true_iff (leb b k) _).0 e in
    let g = (and-eq-true_iff (leb k last_position) _).0 f.1 in
    let i : b ≤ k = leb-true b k f.0 in
    let t : k ≤ get_or l j 0 = rising_low k l g.1 j (omega arith) in
    omega arith

rising_sorted : (b : ℕ) (l : List ℕ) → rising_from b l ≡ true → Sorted l
unfolding rising_from Sorted
rising_sorted b [] e i j p h = absurd (omega arith)
rising_sorted b (k ∷ l) e zero zero p h = omega arith
rising_sorted b (k ∷ l) e zero (suc j) p h = rising_low k l ((and-eq-true_iff (leb k last_position) _).0 ((and-eq-true_iff (leb b k) _).0 e).1).1 j (omega arith)
rising_sorted b (k ∷ l) e (suc i) zero p h = absurd (omega arith)
rising_sorted b (k ∷ l) e (suc i) (suc j) p h = rising_sorted k l ((and-eq-true_iff (leb k last_position) _).0 ((and-eq-true_iff (leb b k) _).0 e).1).1 i j (omega arith) (omega arith)

-- ---- what marking leaves

record Went (f c n : ℕ) (d : Bool) (u : List ℕ) (m : Reached) : Type 0 where
  within : m.cursor ≤ c + f
  kept : (j : ℕ) → j < c → get_or m.part (most_kicks + j) 0 ≡ get_or u (most_kicks + j) 0
  put : (j : ℕ) → c ≤ j → j < m.cursor → is_mark (get_or m.part (most_kicks + j) 0) ≡ d
  up : (j : ℕ) → c ≤ j → j < m.cursor → get_or u j 0 ≤ n
  stop : m.cursor < c + f → n < get_or u m.cursor 0

flagged : (d : Bool) → is_mark (flag d) ≡ d
flagged true = refl
flagged false = refl

went_on : (f c n : ℕ) (d : Bool) (u : List ℕ) (m : Reached) → c + suc f ≤ most_kicks → duck_counts ≤ length u → get_or u c 0 ≤ n
    → Went f (c + 1) n d (set u (most_kicks + c) (flag d)) m → Went (suc f) c n d u m
went_on f c n d u m few wide e w =
    let b = w.within in
    let same : (j : ℕ) → j < most_kicks → get_or (set u (most_kicks + c) (flag d)) j 0 ≡ get_or u j 0 = λ j h. get_or-set_other u (most_kicks + c) j (flag d) 0 (λ q. omega arith) in
    record {
      within = omega arith;
      kept = λ j h. w.kept j (omega arith) ∙ get_or-set_other u (most_kicks + c) (most_kicks + j) (flag d) 0 (λ q. omega arith);
      put = λ j p h. elim (dec_lt c j) [
        | yes i ↦ w.put j (omega arith) h
        | no i ↦ let q : j ≡ c = omega arith in rw q (ap is_mark (w.kept c (omega arith) ∙ get_or-set_same u (most_kicks + c) (flag d) 0 (omega arith)) ∙ flagged d)
      ];
      up = λ j p h. elim (dec_lt c j) [
        | yes i ↦ rw (same j (omega arith)) at (w.up j (omega arith) h)
        | no i ↦ let q : j ≡ c = omega arith in rw q e
      ];
      stop = λ h. rw (same m.cursor (omega arith)) at (w.stop (omega arith));
    }

goes : (f c n : ℕ) (d : Bool) (u : List ℕ) → c + f ≤ most_kicks → duck_counts ≤ length u → Went f c n d u (reach f c n d u)
unfolding reach
goes zero c n d u few wide = record { within = omega arith; kept = λ j h. refl; put = λ j p h. absurd (omega arith); up = λ j p h. absurd (omega arith); stop = λ h. absurd (omega arith) }
goes (suc f) c n d u few wide = by (leb (get_or u c 0) n) refl (goes f (c + 1) n d (set u (most_kicks + c) (flag d)) (omega arith) (rw length-set wide))
  where
    by : (b : Bool) → leb (get_or u c 0) n ≡ b → Went f (c + 1) n d (set u (most_kicks + c) (flag d)) (reach f (c + 1) n d (set u (most_kicks + c) (flag d)))
        → Went (suc f) c n d u (cond b (reach f (c + 1) n d (set u (most_kicks + c) (flag d))) (reached_at c u))
    by true e w = went_on f c n d u _ few wide (leb-true (get_or u c 0) n e) w
    by false e w =
        record { within = omega arith; kept = λ j h. refl; put = λ j p h. absurd (omega arith); up = λ j p h. absurd (omega arith); stop = λ h. leb-false (get_or u c 0) n e }

-- no position changes
reach_kicks : (count f c n : ℕ) (d : Bool) (u : List ℕ) → count ≤ most_kicks → kicks_in count (reach f c n d u).part ≡ kicks_in count u
unfolding reach
reach_kicks count zero c n d u few = refl
reach_kicks count (suc f) c n d u few = by (leb (get_or u c 0) n) (reach_kicks count f (c + 1) n d (set u (most_kicks + c) (flag d)) few ∙ take-set-le count u (most_kicks + c) (flag d) (omega arith))
  where
    by : (b : Bool) → kicks_in count (reach f (c + 1) n d (set u (most_kicks + c) (flag d))).part ≡ kicks_in count u
        → kicks_in count (cond b (reach f (c + 1) n d (set u (most_kicks + c) (flag d))) (reached_at c u)).part ≡ kicks_in count u
    by true h = h
    by false h = refl

-- ---- the marks of the lists

marked_length : (n : ℕ) (d : Bool) (ks : List ℕ) (ms : List Bool) → length ms ≡ length ks → length (marks_at n d ks ms) ≡ length ks
unfolding marks_at
marked_length n d [] ms e = refl
marked_length n d (k ∷ ks) [] e = absurd (omega arith)
marked_length n d (k ∷ ks) (m ∷ ms) e = ap suc (marked_length n d ks ms (omega arith))

marked_get : (n : ℕ) (d : Bool) (ks : List ℕ) (ms : List Bool) → length ms ≡ length ks → (j : ℕ) → j < length ks
    → get_or (marks_at n d ks ms) j false ≡ cond (eqb (get_or ks j 0) n) d (get_or ms j false)
unfolding marks_at
marked_get n d [] ms e j h = absurd (omega arith)
marked_get n d (k ∷ ks) [] e j h = absurd (omega arith)
marked_get n d (k ∷ ks) (m ∷ ms) e zero h = refl
marked_get n d (k ∷ ks) (m ∷ ms) e (suc j) h = marked_get n d ks ms (omega arith) j (omega arith)

-- ---- the kicks that have released

module _ (r : DuckRate) (n : ℕ) where
  released_are : (ks : List ℕ) (j : ℕ) → j < released r n ks → get_or ks j 0 + span r ≤ n
  unfolding released
  released_are [] j h = absurd (omega arith)
  released_are (k ∷ ks) j h = by (leb (k + span r) n) refl (released_are ks) j h
    where
      by : (b : Bool) → leb (k + span r) n ≡ b → ((j : ℕ) → j < released r n ks → get_or ks j 0 + span r ≤ n) → (j : ℕ) → j < cond b (released r n ks + 1) 0 → get_or (k ∷ ks) j 0 + span r ≤ n
      by true e i zero h = leb-true (k + span r) n e
      by true e i (suc j) h = i j (omega arith)
      by false e i j h = absurd (omega arith)

  released_next : (ks : List ℕ) → released r n ks < length ks → n < get_or ks (released r n ks) 0 + span r
  unfolding released
  released_next [] h = absurd (omega arith)
  released_next (k ∷ ks) h = by (leb (k + span r) n) refl (released_next ks) h
    where
      by : (b : Bool) → leb (k + span r) n ≡ b → (released r n ks < length ks → n < get_or ks (released r n ks) 0 + span r) → cond b (released r n ks + 1) 0 < suc (length ks)
          → n < get_or (k ∷ ks) (cond b (released r n ks + 1) 0) 0 + span r
      by true e i h = let q : released r n ks + 1 ≡ suc (released r n ks) = omega arith in rw q (i (omega arith))
      by false e i h = leb-false (k + span r) n e

  -- ---- the product

  passed : (k : ℕ) → k + span r ≤ n → ducks r n k ≡ false
  passed k h = rw (le-ltb n (k + span r) h) (and-false (leb k n))

  to_come : (k : ℕ) → n < k → ducks r n k ≡ false
  to_come k h = rw (lt-leb k n h)

  -- kicks that do not duck add nothing
  none : (ks : List ℕ) (ms : List Bool) (g : Float) → ((j : ℕ) → j < length ks → n < get_or ks j 0) → times_gains r n g ks ms ≡ g
  unfolding times_gains
  none [] ms g h = refl
  none (k ∷ ks) [] g h = refl
  none (k ∷ ks) (m ∷ ms) g h = rw (to_come k (h 0 (omega arith)), and-false m) (none ks ms g (λ j p. h (suc j) (omega arith)))

  skip : (j : ℕ) (ks : List ℕ) (ms : List Bool) (g : Float) → length ms ≡ length ks → ((i : ℕ) → i < j → get_or ks i 0 + span r ≤ n)
      → times_gains r n g (drop j ks) (drop j ms) ≡ times_gains r n g ks ms
  unfolding times_gains
  skip zero ks ms g l h = refl
  skip (suc j) [] ms g l h = refl
  skip (suc j) (k ∷ ks) [] g l h = absurd (omega arith)
  skip (suc j) (k ∷ ks) (m ∷ ms) g l h = rw (passed k (h 0 (omega arith)), and-false m) (skip j ks ms g (omega arith) (λ i p. h (suc i) (omega arith)))

  -- up to the first kick after n is over all of them
  until : (ks : List ℕ) (ms ws : List Bool) (g : Float) → length ms ≡ length ks → length ws ≡ length ks → Sorted ks → ((j : ℕ) → j < length ks → n < get_or ks j 0 + span r)
      → ((j : ℕ) → j < length ks → get_or ks j 0 ≤ n → get_or ms j false ≡ get_or ws j false) → times_until r n g ks ms ≡ times_gains r n g ks ws
  unfolding times_until times_gains Sorted
  until [] ms ws g la lb s still agree = refl
  until (k ∷ ks) [] ws g la lb s still agree = absurd (omega arith)
  until (k ∷ ks) (m ∷ ms) [] g la lb s still agree = absurd (omega arith)
  until (k ∷ ks) (m ∷ ms) (w ∷ ws) g la lb s still agree =
      by (leb k n) refl (λ v. until ks ms ws v (omega arith) (omega arith) (λ i j p h. s (suc i) (suc j) (omega arith) (omega arith)) (λ j h. still (suc j) (omega arith)) (λ j h l. agree (suc j) (omega arith) l))
    where
      by : (t : Bool) → leb k n ≡ t → ((v : Float) → times_until r n v ks ms ≡ times_gains r n v ks ws)
          → cond t (times_until r n (cond m (g ⊗ sidechain_gain r (n - k)) g) ks ms) g ≡ times_gains r n (cond (w && (t && ltb n (k + span r))) (g ⊗ sidechain_gain r (n - k)) g) ks ws
      by true e rest = rw (lt-ltb n (k + span r) (still 0 (omega arith)), and-true w, agree 0 (omega arith) (leb-true k n e)) (rest (cond w (g ⊗ sidechain_gain r (n - k)) g))
      by false e rest =
          let after = leb-false k n e in
          rw (and-false w) (sym (none ks ws g (λ j h. omega (arith, s 0 (suc j) (omega arith) (omega arith)))))

-- ---- the relation

pub record DuckHolds (r : DuckRate) (kicks : List ℕ) (n : ℕ) (marks : List Bool) (s : DuckIn) : Type 0 where
  pub within : Within s
  pub kept : kicks_in s.duck.count s.part ≡ kicks
  pub risen : rising_from 0 kicks ≡ true
  pub sized : length marks ≡ length kicks
  pub before : (j : ℕ) → j < s.duck.reached → get_or kicks j 0 < n
  pub later : (j : ℕ) → s.duck.reached ≤ j → j < length kicks → n ≤ get_or kicks j 0
  pub gone : (j : ℕ) → j < s.duck.ducking → get_or kicks j 0 + span r ≤ n
  pub marked : (j : ℕ) → j < s.duck.reached → is_mark (get_or s.part (most_kicks + j) 0) ≡ get_or marks j false

-- ---- one sample

module _ (r : DuckRate) (kicks : List ℕ) (d : Bool) (n : ℕ) (marks : List Bool) (s : DuckIn) (h : DuckHolds r kicks n marks s) where
  m : Reached
  m = reach (s.duck.count - s.duck.reached) s.duck.reached n d s.part

  from : ℕ
  from = s.duck.ducking + released r n (drop s.duck.ducking kicks)

  now : List Bool
  now = marks_at n d kicks marks

  same_kicks : kicks_in s.duck.count m.part ≡ kicks
  unfolding m
  same_kicks = reach_kicks s.duck.count (s.duck.count - s.duck.reached) s.duck.reached n d s.part h.within.few ∙ h.kept

  long : length kicks ≡ s.duck.count
  long = sym (ap length h.kept) ∙ kicks_length s.duck.count s.part h.within.few h.within.sized

  at : (j : ℕ) → j < s.duck.count → get_or s.part j 0 ≡ get_or kicks j 0
  at j i = sym (get_or-take s.duck.count s.part j 0 i) ∙ ap (λ (l : List ℕ). get_or l j 0) h.kept

  sorted : (i j : ℕ) → i ≤ j → j < length kicks → get_or kicks i 0 ≤ get_or kicks j 0
  unfolding Sorted
  sorted = rising_sorted 0 kicks h.risen

  went : Went (s.duck.count - s.duck.reached) s.duck.reached n d s.part m
  unfolding m
  went =
      let a = h.within in
      goes (s.duck.count - s.duck.reached) s.duck.reached n d s.part (let b = a.few in let c = a.reached in omega arith) a.sized

  m_within : m.cursor ≤ s.duck.count
  m_within = let a = went.within in let b = h.within.reached in omega arith

  now_before : (j : ℕ) → j < m.cursor → get_or kicks j 0 < n + 1
  now_before j i = elim (dec_lt j s.duck.reached) [
    | yes k ↦ omega (arith, h.before j k)
    | no k ↦ let b = m_within in omega (arith, went.up j (omega arith) i, at j (omega arith))
  ]

  now_later : (j : ℕ) → m.cursor ≤ j → j < length kicks → n + 1 ≤ get_or kicks j 0
  now_later j i k =
      let l = long in
      let b = h.within.reached in
      omega (arith, went.stop (omega arith), at m.cursor (omega arith), sorted m.cursor j i k)

  now_marked : (j : ℕ) → j < m.cursor → is_mark (get_or m.part (most_kicks + j) 0) ≡ get_or now j false
  unfolding now
  now_marked j i =
      let l = long in
      let b = m_within in
      let g = marked_get n d kicks marks h.sized j (omega arith) in
      elim (dec_lt j s.duck.reached) [
        | yes k ↦ ap is_mark (went.kept j k) ∙ h.marked j k ∙ sym (g ∙ rw (ne_eqb (get_or kicks j 0) n (λ q. omega (arith, h.before j k))))
        | no k ↦
            let e : get_or kicks j 0 ≡ n = omega (arith, went.up j (omega arith) i, at j (omega arith), h.later j (omega arith) (omega arith)) in
            went.put j (omega arith) i ∙ sym (g ∙ rw (eq-eqb (get_or kicks j 0) n e))
      ]

  now_gone : (j : ℕ) → j < from → get_or kicks j 0 + span r ≤ n
  unfolding from
  now_gone j i = elim (dec_lt j s.duck.ducking) [
    | yes k ↦ h.gone j k
    | no k ↦
        let q : s.duck.ducking + (j - s.duck.ducking) ≡ j = omega arith in
        let e : get_or (drop s.duck.ducking kicks) (j - s.duck.ducking) 0 ≡ get_or kicks j 0 = get_or-drop s.duck.ducking kicks (j - s.duck.ducking) 0 ∙ rw q in
        omega (arith, released_are r n (drop s.duck.ducking kicks) (j - s.duck.ducking) (omega arith))
  ]

  still : (j : ℕ) → from ≤ j → j < length kicks → n < get_or kicks j 0 + span r
  unfolding from
  still j i k =
      let f = released r n (drop s.duck.ducking kicks) in
      let l = length-drop s.duck.ducking kicks in
      let e : get_or (drop s.duck.ducking kicks) (released r n (drop s.duck.ducking kicks)) 0 ≡ get_or kicks (s.duck.ducking + released r n (drop s.duck.ducking kicks)) 0 =
      get_or-drop s.duck.ducking kicks (released r n (drop s.duck.ducking kicks)) 0 in
      omega (arith, released_next r n (drop s.duck.ducking kicks) (omega arith), sorted (s.duck.ducking + released r n (drop s.duck.ducking kicks)) j i k)

  same_gain : times_gains r n one kicks now ≡ (gain_on r d n s).out
  unfolding gain_on now from m Sorted
  same_gain =
      let c = s.duck.count in
      let w = gain_within r d n s h.within in
      let l = long in
      let ml : length (marks_in c m.part) ≡ length kicks = marks_length c m.part w.few w.sized ∙ sym long in
      let nl : length now ≡ length kicks = marked_length n d kicks marks h.sized in
      let k : length (drop from kicks) ≡ length kicks - from = length-drop from kicks in
      let a : (j : ℕ) → get_or (drop from kicks) j 0 ≡ get_or kicks (from + j) 0 = λ j. get_or-drop from kicks j 0 in
      rw same_kicks
      (sym (skip r n from kicks now one nl now_gone)
      ∙ sym (until r n (drop from kicks) (drop from (marks_in c m.part)) (drop from now) one
      (length-drop from (marks_in c m.part) ∙ rw ml (sym k))
      (length-drop from now ∙ rw nl (sym k))
      (λ i j p t. omega (arith, a i, a j, sorted (from + i) (from + j) (omega arith) (omega arith)))
      (λ j t. omega (arith, a j, still (from + j) (omega arith) (omega arith)))
      (λ j t u. get_or-drop from (marks_in c m.part) j false ∙ marks_get c m.part w.few w.sized (from + j) (omega arith)
      ∙ now_marked (from + j) (elim (dec_lt (from + j) m.cursor) [ yes i ↦ i | no i ↦ absurd (omega (arith, a j, now_later (from + j) (omega arith) (omega arith))) ])
      ∙ sym (get_or-drop from now j false))))

  holds_on : DuckHolds r kicks (n + 1) now (gain_on r d n s).next
  unfolding gain_on now from m
  holds_on =
      record {
        within = gain_within r d n s h.within;
        kept = same_kicks;
        risen = h.risen;
        sized = marked_length n d kicks marks h.sized;
        before = now_before;
        later = now_later;
        gone = rw same_kicks (λ j i. omega (arith, now_gone j i));
        marked = now_marked;
      }

-- ---- the theorem: the same out of every sample, at any rate

pub duck_relates : (r : DuckRate) (kicks : List ℕ) (d : Bool) → Relates (DuckHolds r kicks) (duck_step r kicks d) (duck_step_on r d)
unfolding duck_step duck_step_on now
duck_relates r kicks d =
    record {
      keeps = λ n marks s x h. holds_on r kicks d n marks s h;
      same = λ n marks s x h. ap (λ (g : Float). x ⊗ g) (same_gain r kicks d n marks s h);
    }

-- before the first sample
pub duck_fresh : (r : DuckRate) (kicks part : List ℕ) → length kicks ≤ most_kicks → duck_counts ≤ length part → rising_from 0 kicks ≡ true → DuckHolds r kicks 0 (unmarked kicks) (laid kicks part)
duck_fresh r kicks part few wide risen =
    record {
      within = record { sized = rw (laid_length kicks part few wide) wide; few = few; reached = omega arith; ducking = omega arith };
      kept = laid_kicks kicks part few wide;
      risen = risen;
      sized = length-map kicks (λ (k : ℕ). false);
      before = λ j i. absurd (omega arith);
      later = λ j i k. omega arith;
      gone = λ j i. absurd (omega arith);
      marked = λ j i. absurd (omega arith);
    }

-- ---- what refusal 4 accepts is within its list

pub formed_within : (s : DuckIn) → duck_counts ≤ length s.part → duck_formed s ≡ true → Within s
unfolding duck_formed
formed_within s wide e =
    let a = (and-eq-true_iff _ _).0 e in
    let b = (and-eq-true_iff _ _).0 a.1 in
    let c = (and-eq-true_iff _ _).0 b.1 in
    record { sized = wide; few = leb-true _ _ a.0; reached = leb-true _ _ b.0; ducking = leb-true _ _ c.0 }
