use Rattle.std.proofs.Common.{◌≡◌, ℕ, ◌<◌, ◌≤◌, Float}
use Rattle.elementary.specs.Elementary.{down}
use Rattle.elementary.proofs.stepped.Given as goal

abbrev pub invariant-loop-j : goal.invariant-loop-j
invariant-loop-j g l =
    (f : ℕ → Float → Float) → ((j : ℕ) (t r : Float) → 0 < j → j ≤ l.n → goal.F-post g l.step j t r → r ≡ f j t) → down f l.j l.t ≡ down f l.n l.first
