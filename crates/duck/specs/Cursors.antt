-- The duck as it is kept: its part of the count store has the kicks' positions from 0 on and their marks from 1,024 on.
-- Two cursors spare the kicks that have passed and those to come.
use Rattle.std.specs.Prelude.{ℕ, zero, suc, ◌+◌, ◌-◌, ◌*◌, ◌≤◌, Bool, not, cond, ◌&&◌, List, [], ◌∷◌, ◌++◌, map, leb, eqb, length, take, drop, get_or, set, replicate, Float}
use Rattle.casts.specs.Arithmetic.{◌⊗◌, one}
use Rattle.stage.specs.Stage.{Stage, Step}
use Rattle.duck.specs.declared.Duck.{Duck}
use Rattle.sidechain.specs.declared.DuckRate.{DuckRate}
use Rattle.sidechain.specs.Sidechain.{span, sidechain_gain}
use Rattle.ranges.specs.Ranges.{rising_from, most_kicks}

-- a duck's part: as many kicks as there may be, and as many marks
abbrev pub duck_counts : ℕ
duck_counts = 2 * most_kicks

pub record DuckIn : Type 0 where
  pub duck : Duck
  pub part : List ℕ

abbrev pub duck_on : Duck → List ℕ → DuckIn
duck_on duck part = record { duck = duck; part = part }

-- the kicks at the front of a part, and no kick marked
abbrev pub kicks_laid : List ℕ → List ℕ → List ℕ
kicks_laid kicks part = (kicks ++ drop (length kicks) (take most_kicks part)) ++ (replicate (length kicks) 0 ++ drop (length kicks) (drop most_kicks part))

-- `Duck::new`: the cursors at the first kick
abbrev pub laid : List ℕ → List ℕ → DuckIn
laid kicks part = duck_on (record { count = length kicks; reached = 0; ducking = 0 }) (kicks_laid kicks part)

abbrev pub gave : Duck → List ℕ → Float → Step DuckIn Float
gave duck part gain = record { next = duck_on duck part; out = gain }

-- a mark in the store: 0 is none
abbrev pub is_mark : ℕ → Bool
is_mark v = not (eqb v 0)

abbrev pub flag : Bool → ℕ
flag d = cond d 1 0

-- the kicks in use and their marks
abbrev pub kicks_in : ℕ → List ℕ → List ℕ
kicks_in count part = take count part

abbrev pub marks_in : ℕ → List ℕ → List Bool
marks_in count part = map is_mark (take count (drop most_kicks part))

-- `Duck::reach`: of the f kicks from the cursor c on those up to n are marked by d, and the cursor goes past them
pub record Reached : Type 0 where
  pub cursor : ℕ
  pub part : List ℕ

abbrev pub reached_at : ℕ → List ℕ → Reached
reached_at c part = record { cursor = c; part = part }

unfoldable pub reach : ℕ → ℕ → ℕ → Bool → List ℕ → Reached
reach zero c n d part = reached_at c part
reach (suc f) c n d part = cond (leb (get_or part c 0) n) (reach f (c + 1) n d (set part (most_kicks + c) (flag d))) (reached_at c part)

-- how many of the first kicks have released at n
unfoldable pub released : DuckRate → ℕ → List ℕ → ℕ
released r n [] = 0
released r n (k ∷ kicks) = cond (leb (k + span r) n) (released r n kicks + 1) 0

-- one kick more in the product: g, times the gain so many samples since a kick if it is marked
abbrev pub times_gain : DuckRate → Float → ℕ → Bool → Float
times_gain r g since m = cond m (g ⊗ sidechain_gain r since) g

-- `Duck::gain`: from g, times the gain of each marked kick, up to the first kick after n
unfoldable pub times_until : DuckRate → ℕ → Float → List ℕ → List Bool → Float
times_until r n g [] marks = g
times_until r n g (k ∷ kicks) [] = g
times_until r n g (k ∷ kicks) (m ∷ marks) = cond (leb k n) (times_until r n (times_gain r g (n - k) m) kicks marks) g

-- the sample n, with the drums flag d: the duck after it, and its gain
unfoldable pub gain_on : DuckRate → Bool → ℕ → DuckIn → Step DuckIn Float
gain_on r d n s =
    let count = s.duck.count in
    let m = reach (count - s.duck.reached) s.duck.reached n d s.part in
    let kicks = kicks_in count m.part in
    let from = s.duck.ducking + released r n (drop s.duck.ducking kicks) in
    record {
      next = duck_on (record { count = count; reached = m.cursor; ducking = from }) m.part;
      out = times_until r n one (drop from kicks) (drop from (marks_in count m.part));
    }

unfoldable pub duck_step_on : DuckRate → Bool → Stage DuckIn Float Float
duck_step_on r d n s x = let g = gain_on r d n s in record { next = g.next; out = x ⊗ g.out }

-- what the code asks of a duck and its part: no list is too long, and no cursor is beyond its list
pub record Within (s : DuckIn) : Type 0 where
  pub sized : duck_counts ≤ length s.part
  pub few : s.duck.count ≤ most_kicks
  pub reached : s.duck.reached ≤ s.duck.count
  pub ducking : s.duck.ducking ≤ s.duck.count

-- refusal 4: "a cursor beyond its list", or a kept list that is too long, falls or has a position above 2^32
unfoldable pub duck_formed : DuckIn → Bool
duck_formed s =
    leb s.duck.count most_kicks
    && (leb s.duck.reached s.duck.count && (leb s.duck.ducking s.duck.count && rising_from 0 (kicks_in s.duck.count s.part)))
