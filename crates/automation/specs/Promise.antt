-- 02's E8 as claims about the list merged, which know nothing of how it is merged. Proved as `ties` and `untied` in proofs/Ties.antt.
use Rattle.std.specs.Prelude.{◌≡◌, ℕ, ◌<◌, T, List, [], ◌∷◌, ◌≢◌, Float}
use mathlib.Core.List.{Memᴰ}
use Rattle.std.specs.Float.Ieee.{le}
use Rattle.casts.specs.Arithmetic.{nought, one}
use Rattle.ranges.specs.Ranges.{all_in_range, rising_from}
use Rattle.automation.specs.Automation.{Point, positions_of, values_of, merged, sweep_of, sweep_at}

-- each lies after the one before it, so that no two are tied
abbrev pub EachLater : List ℕ → Type 0
EachLater [] = Unit {0}
EachLater (p ∷ []) = Unit {0}
EachLater (p ∷ q ∷ ps) = (p < q) × EachLater (q ∷ ps)

-- one of ms lies where p lies, and its value is not above p's
pub record Lowest (p : Point) (ms : List Point) : Type 0 where
  pub point : Point
  pub among : Memᴰ point ms
  pub position : point.position ≡ p.position
  pub value : T (le point.value p.value)

-- "tied points now count as one, bearing the lowest value": no two of ms are tied, each is one of the points given, and of those none has a lower value
pub record MergedTo (ps ms : List Point) : Type 0 where
  pub later : EachLater (positions_of ms)
  pub given : (m : Point) → Memᴰ m ms → Memᴰ m ps
  pub lowest : (p : Point) → Memᴰ p ps → Lowest p ms

-- of every list that refusal 3 lets pass: "never falling", and "value 0 to 1"
abbrev pub TiesCountAsOne : Type 0
TiesCountAsOne = (ps : List Point) → T (rising_from 0 (positions_of ps)) → T (all_in_range nought one (values_of ps)) → MergedTo ps (merged ps)

-- no two neighbours are tied
abbrev pub Untied : List ℕ → Type 0
Untied [] = Unit {0}
Untied (p ∷ []) = Unit {0}
Untied (p ∷ q ∷ ps) = (p ≢ q) × Untied (q ∷ ps)

-- a list without ties has the value that 01 gives it
abbrev pub UntiedAsBefore : Type 0
UntiedAsBefore = (ps : List ℕ) (xs : List Float) (n : ℕ) → Untied ps → sweep_at ps xs n ≡ sweep_of ps xs n
