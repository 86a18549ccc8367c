use lib.ListN.{length}
use mathlib.Core.Path.{◌≡◌}
use mathlib.Core.List.{map}
use Rattle.casts.specs.Arithmetic.{◌⊗◌}
use Rattle.stage.proofs.Loop.{Wrote}
use Rattle.blocks.proofs.send.Given as goal

abbrev pub invariant-loop-i : goal.invariant-loop-i
invariant-loop-i l = Wrote (map (λ y. y ⊗ l.level) l.dry) l.sent l.i × (length l.sent ≡ length l.dry)
