use lib.ListN.{length}
use mathlib.Core.Path.{◌≡◌}
use Rattle.blocks.specs.Run.{added}
use Rattle.stage.proofs.Loop.{Wrote, Ahead}
use Rattle.blocks.proofs.add.Given as goal

abbrev pub invariant-loop-i : goal.invariant-loop-i
invariant-loop-i l = (Wrote (added l.dry l.initial.side) l.side l.i × Ahead l.initial.side l.side l.i) × (length l.initial.side ≡ length l.dry)
