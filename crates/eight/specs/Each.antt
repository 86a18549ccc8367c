-- Eight numbers at a time, as the list of a vector's lanes. Definitions only.
use Rattle.std.specs.Prelude.{cond, List, [], ◌∷◌, ◌≡◌, ℕ, ◌+◌, ◌-◌, ◌*◌, ◌<◌, ltb, get_or, Float}
use Rattle.std.specs.Float.{nan}
use Rattle.std.specs.Float.Ieee.{le, neg}
use Rattle.casts.specs.Arithmetic.{◌⊖◌, ◌⊗◌, ◌⊘◌, whole, one}
use Rattle.elementary.specs.Elementary.{TANH, twenty}

-- the values at 0 to 7
abbrev pub eight_of : {X : Type 0} → (ℕ → X) → List X
eight_of f = f 0 ∷ f 1 ∷ f 2 ∷ f 3 ∷ f 4 ∷ f 5 ∷ f 6 ∷ f 7 ∷ []

-- l begins with the values at 0 to count - 1
abbrev pub Laid : ℕ → (ℕ → Float) → List Float → Type 0
Laid count f l = (k : ℕ) → k < count → get_or l k nan ≡ f k

-- q, but 1 from 20 up and -1 from -20 down
abbrev pub held_at : Float → Float → Float
held_at v q = cond (le twenty v) one (cond (le v (neg twenty)) (neg one) q)

-- a step of SIN (odd 1) or COS (odd 0)
abbrev pub wave_step : ℕ → Float → ℕ → Float → Float
wave_step odd z j s = one ⊖ (z ⊘ whole ((2 * j + odd) * (2 * j + odd - 1))) ⊗ s

-- 01: "TANH(x·drive)/TANH(drive)", top being TANH(drive)
abbrev pub saturated_over : Float → Float → Float → Float
saturated_over drive top x = TANH (x ⊗ drive) ⊘ top

-- where the group ends that begins at i, of len numbers: eight on, or at the end
abbrev pub group_end : ℕ → ℕ → ℕ
group_end i len = cond (ltb (len - i) 8) len (i + 8)
