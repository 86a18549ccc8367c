-- The sweep's value by the points reached and the ties around n is the value of the list merged. Assumes nothing, not even that the list rises.
use Rattle.std.proofs.Common.{◌≡◌, ℕ, zero, suc, ◌+◌, ◌-◌, ◌<◌, ◌≤◌, List, [], ◌∷◌, ◌++◌, length, get_or, take, drop, sym, refl, ap, ◌∙◌, one-add, arith, length-append, take-append-drop, drop_of_length-le, length-take-le, get_or-drop, take_all, drop-cons, get_or-take, take-add, eq-eqb, ne_eqb, le-leb}
use native.Mathlib.Decide.{dec_le}
use lib.ListN.{length-map, get_or-append, get_or-map}
use lib.Seq.{split_at, get_or-append_seam}
use lib.Ieee.{Float, nan}
use borrow.Author.Tests.{lt-leb}
use Rattle.casts.specs.Arithmetic.{one}
use Rattle.casts.specs.Least.{min_f}
use Rattle.automation.specs.Automation.{Point, points_of, positions_of, values_of, merged_with, merged, reached, segment, sweep_of, sweep_at}
use Rattle.automation.specs.Kept.{tied, tie_end, lowest_to}
use Rattle.automation.proofs.Points.{reached_before, reached_next}
use Rattle.automation.proofs.Merged.{point, no_point, with_tied, front, NotTied, merged_apart, merged_some, last_position_lem, merged_reached, none_reached}

-- ---- the points of two lists
pub positions_given : (ps : List ℕ) (xs : List Float) → positions_of (points_of ps xs) ≡ ps
unfolding points_of
positions_given [] xs = refl
positions_given (p ∷ ps) xs = ap (λ (t : List ℕ). p ∷ t) (positions_given ps (drop 1 xs))

points_given : (ps : List ℕ) (xs : List Float) → length (points_of ps xs) ≡ length ps
unfolding points_of
points_given [] xs = refl
points_given (p ∷ ps) xs = ap suc (points_given ps (drop 1 xs))

pub point_given : (ps : List ℕ) (xs : List Float) (k : ℕ) → k < length ps → get_or (points_of ps xs) k no_point ≡ point (get_or ps k 0) (get_or xs k nan)
unfolding points_of
point_given [] xs k h = absurd (omega arith)
point_given (p ∷ ps) xs zero h = refl
point_given (p ∷ ps) xs (suc k) h = point_given ps (drop 1 xs) k (omega arith) ∙ rw (get_or-drop 1 xs k nan, one-add)

positions_from : (ps : List ℕ) (xs : List Float) (k : ℕ) → positions_of (drop k (points_of ps xs)) ≡ drop k ps
unfolding points_of
positions_from ps xs zero = positions_given ps xs
positions_from [] xs (suc k) = refl
positions_from (p ∷ ps) xs (suc k) = positions_from ps (drop 1 xs) k

-- ---- points that are reached, before points that are not
reached_past : (ps qs : List Point) (n : ℕ) → reached (positions_of ps) n ≡ length ps → reached (positions_of qs) n ≡ 0 → reached (positions_of (ps ++ qs)) n ≡ length ps
unfolding reached
reached_past [] qs n h g = g
reached_past (p ∷ ps) qs n h g = elim (dec_le p.position n) [
  | yes k ↦ let i = rw (le-leb p.position n k) at h in rw (le-leb p.position n k) (ap suc (reached_past ps qs n (omega arith) g))
  | no k ↦ let i = rw (lt-leb p.position n (omega arith)) at h in absurd (omega arith)
]

reached_take : (ps : List Point) (n : ℕ) → reached (positions_of (take (reached (positions_of ps) n) ps)) n ≡ length (take (reached (positions_of ps) n) ps)
unfolding reached
reached_take [] n = refl
reached_take (p ∷ ps) n = elim (dec_le p.position n) [
  | yes k ↦ rw (le-leb p.position n k, le-leb p.position n k) (ap suc (reached_take ps n))
  | no k ↦ rw (lt-leb p.position n (omega arith))
]

-- ---- the lowest value of the tie that ends a list
abbrev lowest : List Point → Float
lowest ps = get_or (values_of (merged ps)) (length (merged ps) - 1) nan

-- it is the next point's own, where that is merged to one
lowest_tie : (ps qs : List Point) (p : ℕ) (x : Float) → NotTied ps qs → merged qs ≡ point p x ∷ [] → lowest (ps ++ qs) ≡ x
lowest_tie ps qs p x h e =
    let m = merged ps in
    let l : length (m ++ point p x ∷ []) - 1 ≡ length m = omega (arith, length-append m (point p x ∷ [])) in
    rw (merged_apart ps qs h, e, l, get_or-map (λ (q : Point). q.value) (m ++ point p x ∷ []) (length m) no_point, get_or-append_seam m (point p x) [] no_point)

-- ---- the tie that ends with the first e points, from its last point to its first: those from i on are merged to one
abbrev pub TieFrom : List ℕ → List Float → ℕ → ℕ → Float → Type 0
TieFrom ps xs e i x = merged (drop i (take e (points_of ps xs))) ≡ point (get_or ps i 0) x ∷ []

module _ (ps : List ℕ) (xs : List Float) (e i : ℕ) (fits : e ≤ length ps) (inside : i < e) where
  abbrev firsts : List Point
  firsts = take e (points_of ps xs)

  first_points : length firsts ≡ e
  first_points = length-take-le e (points_of ps xs) (omega (arith, points_given ps xs))

  first_point : (k : ℕ) → k < e → get_or firsts k no_point ≡ point (get_or ps k 0) (get_or xs k nan)
  first_point k h = rw (get_or-take e (points_of ps xs) k no_point h) (point_given ps xs k (omega arith))

  -- those from k on are the point k, and those behind it
  from : (k j : ℕ) → k < e → j ≡ suc k → drop k firsts ≡ point (get_or ps k 0) (get_or xs k nan) ∷ drop j firsts
  from k j h w = rw (drop-cons firsts k no_point (omega (arith, first_points)), first_point k h, w)

  pub tie_last : i ≡ e - 1 → TieFrom ps xs e i (get_or xs i nan)
  unfolding merged merged_with
  tie_last h = rw (from i (suc i) inside refl, drop_of_length-le firsts {i = suc i} (omega (arith, first_points)))

  module _ (x : Float) (h : TieFrom ps xs e i x) where
    pub tie_back : 0 < i → get_or ps (i - 1) 0 ≡ get_or ps i 0 → TieFrom ps xs e (i - 1) (min_f (get_or xs (i - 1) nan) x)
    unfolding merged
    tie_back z t =
        rw (from (i - 1) i (omega arith) (omega arith), h) (with_tied (point (get_or ps (i - 1) 0) (get_or xs (i - 1) nan)) (point (get_or ps i 0) x) [] t)

    pub tie_first : (0 < i → get_or ps (i - 1) 0 ≡ get_or ps i 0 → ⊥) → lowest_to ps xs e ≡ x
    unfolding lowest_to
    tie_first z = rw (take-append-drop i firsts) at (lowest_tie (take i firsts) (drop i firsts) (get_or ps i 0) x apart h)
      where
        apart : NotTied (take i firsts) (drop i firsts)
        apart k s l t =
            let w : i ≡ suc k = omega (arith, s, length-take-le i firsts (omega (arith, first_points))) in
            let v : k ≡ i - 1 = omega arith in
            let behind : (get_or (take i firsts) k no_point).position ≡ get_or ps k 0 = rw (get_or-take i firsts k no_point (omega arith), first_point k (omega arith)) in
            let here : (get_or (drop i firsts) 0 no_point).position ≡ get_or ps i 0 = rw (from i (suc i) inside refl) in
            z (omega arith) (rw (← v) (sym behind ∙ t ∙ here))

-- ---- after all points, and between two: ps are reached, and q is not
module _ (ps : List Point) (n k : ℕ) (some : length ps ≡ suc k) (all : reached (positions_of ps) n ≡ length ps) where
  left : 0 < length (merged ps)
  left = merged_some ps (omega arith)

  sweep_last : sweep_of (positions_of (merged ps)) (values_of (merged ps)) n ≡ lowest ps
  unfolding sweep_of
  sweep_last =
      let m = merged ps in
      rw (merged_reached ps n all, ne_eqb (length m) 0 (λ e. omega (arith, left)), eq-eqb (length m) (length (positions_of m)) (sym (length-map m (λ (q : Point). q.position))))

  module _ (q : Point) (qs : List Point) (next : n < q.position) (apart : NotTied ps (q ∷ qs)) where
    sweep_around :
        sweep_of (positions_of (merged (ps ++ q ∷ qs))) (values_of (merged (ps ++ q ∷ qs))) n
        ≡ segment (get_or ps k no_point).position (lowest ps) q.position (front q qs).value n
    unfolding sweep_of reached
    sweep_around =
        let a = merged ps in
        let r = front q qs in
        let first = point q.position r.value in
        let b = first ∷ r.rest in
        let last = length a - 1 in
        let count = reached_past a b n (merged_reached ps n all) (rw (lt-leb q.position n next)) in
        let long : length (positions_of (a ++ b)) ≡ length a + length b = length-map (a ++ b) (λ (o : Point). o.position) ∙ length-append a b in
        let before : get_or (a ++ b) last no_point ≡ get_or a last no_point = get_or-append a b no_point last (omega (arith, left)) in
        let after : get_or (a ++ b) (length a) no_point ≡ first = get_or-append_seam a first r.rest no_point in
        rw (
          merged_apart ps (q ∷ qs) apart,
          r.whole,
          count,
          ne_eqb (length a) 0 (λ e. omega (arith, left)),
          ne_eqb (length a) (length (positions_of (a ++ b))) (λ e. omega arith),
          get_or-map (λ (o : Point). o.position) (a ++ b) last no_point,
          get_or-map (λ (o : Point). o.value) (a ++ b) last no_point,
          get_or-map (λ (o : Point). o.position) (a ++ b) (length a) no_point,
          get_or-map (λ (o : Point). o.value) (a ++ b) (length a) no_point,
          before,
          after,
          get_or-map (λ (o : Point). o.value) a last no_point,
          last_position_lem ps k some last (omega (arith, left)),
        )

-- ---- the same of a list of positions and a list of values
module _ (ps : List ℕ) (xs : List Float) (n : ℕ) where
  abbrev given : List Point
  given = points_of ps xs

  count_given : reached (positions_of given) n ≡ reached ps n
  count_given = ap (λ (l : List ℕ). reached l n) (positions_given ps xs)

  reached_given : reached (positions_of (take (reached ps n) given)) n ≡ length (take (reached ps n) given)
  reached_given = rw count_given at (reached_take given n)

  pub sweep_after : 0 < reached ps n → reached ps n ≡ length ps → sweep_at ps xs n ≡ lowest_to ps xs (reached ps n)
  unfolding sweep_at lowest_to
  sweep_after h e =
      let w : take (reached ps n) given ≡ given = take_all (reached ps n) given (omega (arith, points_given ps xs)) in
      rw w (sweep_last given n (length ps - 1) (omega (arith, points_given ps xs)) (rw w at reached_given))

  pub sweep_before : reached ps n ≡ 0 → sweep_at ps xs n ≡ one
  unfolding sweep_at sweep_of
  sweep_before e = rw (none_reached given n (count_given ∙ e))

  -- the next point, and those after it
  module _ (some : 0 < reached ps n) (more : reached ps n < length ps) where
    abbrev i : ℕ
    i = reached ps n

    abbrev q : Point
    q = get_or given i no_point

    abbrev qs : List Point
    qs = drop (suc i) given

    fits : i < length given
    fits = omega (arith, points_given ps xs)

    next : q.position ≡ get_or ps i 0
    next = ap (λ (p : Point). p.position) (point_given ps xs i more)

    apart : (rs : List Point) → NotTied (take i given) (q ∷ rs)
    apart rs k s l e =
        let t : k < i = omega (arith, s, length-take-le i given (omega (arith, fits))) in
        let u : (get_or (take i given) k no_point).position ≡ get_or ps k 0 = rw (get_or-take i given k no_point t) (ap (λ (p : Point). p.position) (point_given ps xs k (omega arith))) in
        omega (arith, u, e, next, reached_before ps n k t, reached_next ps n more)

    lowest_ahead : lowest_to ps xs (tie_end ps i) ≡ (front q qs).value
    unfolding lowest_to tie_end tied
    lowest_ahead =
        let t = tied (get_or ps i 0) (drop (suc i) ps) in
        let end : i + tied (get_or ps i 0) (drop i ps) ≡ i + suc t = rw (drop-cons ps i 0 more, eq-eqb (get_or ps i 0) (get_or ps i 0) refl) in
        let part : take (i + suc t) given ≡ take i given ++ q ∷ take t qs = rw (take-add i (suc t) given, drop-cons given i no_point fits) in
        let alone : merged (q ∷ take t qs) ≡ point (get_or ps i 0) (front q qs).value ∷ [] = rw (next, positions_from ps xs (suc i)) at (front q qs).alone in
        rw (end, part) (lowest_tie (take i given) (q ∷ take t qs) (get_or ps i 0) (front q qs).value (apart (take t qs)) alone)

    pub sweep_between : sweep_at ps xs n ≡ segment (get_or ps (i - 1) 0) (lowest_to ps xs i) (get_or ps i 0) (lowest_to ps xs (tie_end ps i)) n
    unfolding sweep_at lowest_to
    sweep_between =
        let long = length-take-le i given (omega (arith, fits)) in
        let around = sweep_around (take i given) n (i - 1) (omega (arith, long)) reached_given q qs (omega (arith, next, reached_next ps n more)) (apart qs) in
        let last : (get_or (take i given) (i - 1) no_point).position ≡ get_or ps (i - 1) 0 = rw (get_or-take i given (i - 1) no_point (omega arith)) (ap (λ (p : Point). p.position) (point_given ps xs (i - 1) (omega arith))) in
        rw (lowest_ahead, ← last, ← next) (rw (← split_at given i no_point fits) at around)
