-- The sweep's value as the code finds it, with no second list: the lowest value of a tie. Definitions only.
use Rattle.std.specs.Prelude.{ℕ, suc, ◌+◌, ◌-◌, cond, List, [], ◌∷◌, length, take, drop, ◌==◌, slice_index, slice_index_or, Float}
use Rattle.std.specs.Float.{nan}
use Rattle.automation.specs.Automation.{points_of, values_of, merged}

-- how many points from the front lie at p
unfoldable pub tied : ℕ → List ℕ → ℕ
tied p [] = 0
tied p (q ∷ ps) = cond (p == q) (suc (tied p ps)) 0

-- where the tie that begins at the point i ends: before the first point behind it that is not tied with it
unfoldable pub tie_end : List ℕ → ℕ → ℕ
tie_end ps i = i + tied (slice_index ps i) (drop i ps)

-- the lowest value of the tie that ends with the first e points: that of their last, merged
unfoldable pub lowest_to : List ℕ → List Float → ℕ → Float
lowest_to ps xs e =
    let m = merged (take e (points_of ps xs)) in
    slice_index_or (values_of m) (length m - 1) nan
