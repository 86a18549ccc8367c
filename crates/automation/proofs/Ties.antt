-- Tied points count as one, with their lowest value; a list without ties is as it was. Assumes nothing.
use Rattle.std.proofs.Common.{◌≡◌, ℕ, ◌-◌, ◌<◌, ◌≤◌, not, T, leb, List, [], ◌∷◌, length, get_or, refl, ap, ◌∙◌, inl, inr, arith, leb→le, eq-eqb, ne_eqb}
use mathlib.Core.List.Memᴰ
use mathlib.Core.List.{Memᴰ}
use native.Mathlib.Decide.{ℕ_discrete}
use lib.ListN.{get_or-map}
use lib.Ieee.{Float, nan, le, is_nan}
use lib.Ieee.Fits.{and_l, and_r}
use Rattle.casts.specs.Arithmetic.{nought, one}
use Rattle.casts.specs.Order.{le_refl_any, le_trans_any, le_clean_right}
use Rattle.casts.specs.Least.{min_f, min_one, min_left, min_right}
use Rattle.ranges.specs.Ranges.{last_position, in_range, all_in_range, rising_from}
use Rattle.automation.specs.Automation.{Point, points_of, positions_of, values_of, merged_with, merged, reached, sweep_of, sweep_at}
use Rattle.automation.specs.Promise.{EachLater, Lowest, MergedTo, TiesCountAsOne, Untied, UntiedAsBefore}
use Rattle.automation.proofs.Points.{reached_most}
use Rattle.automation.proofs.Merged.{point, no_point, with_tied, with_apart, front}
use Rattle.automation.proofs.Relates.{positions_given, point_given}

-- ---- a point before merged points
abbrev Clean : List Point → Type 0
Clean ps = (p : Point) → Memᴰ p ps → T (not (is_nan p.value))

-- whether each lies later is read off positions alone
later_from : (p q : Point) (qs : List Point) → p.position ≡ q.position → EachLater (positions_of (q ∷ qs)) → EachLater (positions_of (p ∷ qs))
later_from p q [] e h = tt
later_from p q (r ∷ qs) e h = (omega (arith, h.0), h.1)

module _ (p : Point) (ps : List Point) (clean : Clean (p ∷ ps)) where
  p_clean : T (not (is_nan p.value))
  p_clean = clean p (Memᴰ.head refl)

  -- it is tied with none of them, and stands before them as it is
  ties_apart : (ms : List Point) → EachLater (positions_of (p ∷ ms)) → MergedTo ps ms → MergedTo (p ∷ ps) (p ∷ ms)
  ties_apart ms h t = record { later = h; given = given; lowest = lowest }
    where
      given : (m : Point) → Memᴰ m (p ∷ ms) → Memᴰ m (p ∷ ps)
      given m i = elim (Memᴰ.cases_cons i) [
        | inl e ↦ Memᴰ.head e
        | inr j ↦ Memᴰ.tail (t.given m j)
      ]

      lowest : (o : Point) → Memᴰ o (p ∷ ps) → Lowest o (p ∷ ms)
      lowest o i = elim (Memᴰ.cases_cons i) [
        | inl e ↦ record { point = p; among = Memᴰ.head refl; position = cc; value = rw e (le_refl_any p.value p_clean) }
        | inr j ↦ let l = t.lowest o j in record { point = l.point; among = Memᴰ.tail l.among; position = l.position; value = l.value }
      ]

  -- it is tied with the first of them, and the two become one
  module _ (q : Point) (qs : List Point) (t : MergedTo ps (q ∷ qs)) (e : p.position ≡ q.position) where
    abbrev both : Point
    both = point p.position (min_f p.value q.value)

    q_given : Memᴰ q ps
    q_given = t.given q (Memᴰ.head refl)

    q_clean : T (not (is_nan q.value))
    q_clean = clean q (Memᴰ.tail q_given)

    -- that one is one of the two, as they lie at one position
    both_given : Memᴰ both (p ∷ ps)
    both_given = elim (min_one p.value q.value) [
      | inl s ↦ Memᴰ.head (ap (λ (x : Float). point p.position x) s)
      | inr s ↦ Memᴰ.tail (Memᴰ.cast (rw (e, s)) q_given)
    ]

    -- and where either was the lowest, it is
    below_first : (o : Point) → o ≡ p → Lowest o (both ∷ qs)
    below_first o s = record { point = both; among = Memᴰ.head refl; position = cc; value = rw s (min_left p.value q.value p_clean q_clean) }

    below_second : (o : Point) → Lowest o (q ∷ qs) → Lowest o (both ∷ qs)
    below_second o l = elim (Memᴰ.cases_cons l.among) [
      | inl s ↦
          record {
            point = both;
            among = Memᴰ.head refl;
            position = cc;
            value = le_trans_any both.value q.value o.value (min_right p.value q.value p_clean q_clean) (rw s at l.value);
          }
      | inr j ↦ record { point = l.point; among = Memᴰ.tail j; position = l.position; value = l.value }
    ]

    ties_tied : MergedTo (p ∷ ps) (both ∷ qs)
    ties_tied = record { later = later_from both q qs e t.later; given = given; lowest = lowest }
      where
        given : (m : Point) → Memᴰ m (both ∷ qs) → Memᴰ m (p ∷ ps)
        given m i = elim (Memᴰ.cases_cons i) [
          | inl s ↦ Memᴰ.cast s both_given
          | inr j ↦ Memᴰ.tail (t.given m (Memᴰ.tail j))
        ]

        lowest : (o : Point) → Memᴰ o (p ∷ ps) → Lowest o (both ∷ qs)
        lowest o i = elim (Memᴰ.cases_cons i) [
          | inl s ↦ below_first o s
          | inr j ↦ below_second o (t.lowest o j)
        ]

-- p does not lie after the first of a list
abbrev Before : Point → List Point → Type 0
Before p [] = Unit {0}
Before p (q ∷ qs) = p.position ≤ q.position

before_merged : (p : Point) (ps : List Point) → T (rising_from p.position (positions_of ps)) → Before p (merged ps)
unfolding merged rising_from
before_merged p [] h = tt
before_merged p (q ∷ ps) h = rw (front q ps).whole (leb→le p.position q.position (and_l (leb p.position q.position) _ h))

ties_with : (p : Point) (ps ms : List Point) → Clean (p ∷ ps) → Before p ms → MergedTo ps ms → MergedTo (p ∷ ps) (merged_with p ms)
unfolding merged_with
ties_with p ps [] clean h t = ties_apart p ps clean [] tt t
ties_with p ps (q ∷ qs) clean h t = elim (ℕ_discrete p.position q.position) [
  | yes e ↦ rw (with_tied p q qs e) (ties_tied p ps clean q qs t e)
  | no g ↦ rw (with_apart p q qs g) (ties_apart p ps clean (q ∷ qs) (omega arith, t.later) t)
]

-- a value in a range is no NaN
in_range_clean : (ps : List Point) → T (all_in_range nought one (values_of ps)) → Clean ps
unfolding all_in_range in_range
in_range_clean [] h p i = absurd (Memᴰ.not-nil i)
in_range_clean (q ∷ ps) h p i = elim (Memᴰ.cases_cons i) [
  | inl e ↦ rw e (le_clean_right nought q.value (and_l (le nought q.value) (le q.value one) (and_l (in_range nought one q.value) (all_in_range nought one (values_of ps)) h)))
  | inr j ↦ in_range_clean ps (and_r (in_range nought one q.value) (all_in_range nought one (values_of ps)) h) p j
]

-- of a list from any position on
ties_from : (b : ℕ) (ps : List Point) → T (rising_from b (positions_of ps)) → Clean ps → MergedTo ps (merged ps)
unfolding merged rising_from
ties_from b [] h clean = record { later = tt; given = λ m i. i; lowest = λ o i. absurd (Memᴰ.not-nil i) }
ties_from b (p ∷ ps) h clean =
    let behind = and_r (leb p.position last_position) (rising_from p.position (positions_of ps)) (and_r (leb b p.position) _ h) in
    ties_with p ps (merged ps) clean (before_merged p ps behind) (ties_from p.position ps behind (λ o i. clean o (Memᴰ.tail i)))

pub ties : TiesCountAsOne
ties ps h g = ties_from 0 ps h (in_range_clean ps g)

-- ---- a list without ties is as it was
merged_untied : (ps : List Point) → Untied (positions_of ps) → merged ps ≡ ps
unfolding merged merged_with
merged_untied [] h = refl
merged_untied (p ∷ []) h = refl
merged_untied (p ∷ q ∷ ps) h = rw (merged_untied (q ∷ ps) h.1) (with_apart p q ps h.0)

module _ (ps : List ℕ) (xs : List Float) where
  value_given : (k : ℕ) → k < length ps → get_or (values_of (points_of ps xs)) k nan ≡ get_or xs k nan
  value_given k h = get_or-map (λ (p : Point). p.value) (points_of ps xs) k no_point ∙ ap (λ (p : Point). p.value) (point_given ps xs k h)

  -- values are read at points alone, so those that the points bear will do
  sweep_given : (n : ℕ) → sweep_of ps (values_of (points_of ps xs)) n ≡ sweep_of ps xs n
  unfolding sweep_of
  sweep_given n =
      let i = reached ps n in
      let most = reached_most ps n in
      elim (ℕ_discrete i 0) [
        | yes e ↦ rw (eq-eqb i 0 e)
        | no g ↦ elim (ℕ_discrete i (length ps)) [
          | yes e ↦ rw (ne_eqb i 0 g, eq-eqb i (length ps) e) (value_given (i - 1) (omega arith))
          | no f ↦ rw (ne_eqb i 0 g, ne_eqb i (length ps) f, value_given (i - 1) (omega arith), value_given i (omega arith))
        ]
      ]

pub untied : UntiedAsBefore
unfolding sweep_at
untied ps xs n h =
    let e = positions_given ps xs in
    rw (merged_untied (points_of ps xs) (rw e h), e) (sweep_given ps xs n)
