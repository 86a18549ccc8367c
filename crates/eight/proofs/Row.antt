-- What stands at a place of eight values in a row, and where a group of eight ends. Assumes nothing.
use Rattle.std.proofs.Common.{◌≡◌, ℕ, ◌+◌, ◌<◌, ◌≤◌, List, get_or, ap, ◌∙◌, refl, arith, min}
use lib.Ieee.{Float, nan}
use Rattle.eight.specs.Each.{eight_of, Laid, group_end}
use Rattle.eight.proofs.Lanes.{below_eight}

pub at_eight : {X : Type 0} (f : ℕ → X) (l : List X) (k : ℕ) (d : X) → l ≡ eight_of f → k < 8 → get_or l k d ≡ f k
at_eight {X} f l k d e h =
    ap (λ (x : List X). get_or x k d) e ∙ below_eight (λ j. get_or (eight_of f) j d ≡ f j) refl refl refl refl refl refl refl refl k h

pub laid_eight : (f : ℕ → Float) (count : ℕ) (l : List Float) → count ≤ 8 → l ≡ eight_of f → Laid count f l
laid_eight f count l h e k i = at_eight f l k nan e (omega (arith, h, i))

-- where a group of a list ends
pub group_end_min : (i len : ℕ) → i < len → group_end i len ≡ min (i + 8) len
group_end_min i len h = grind arith
