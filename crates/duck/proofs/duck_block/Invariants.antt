use mathlib.Core.Path.{◌≡◌}
use Prim.Native.Nat.{◌-◌}
use lib.ListN.{length}
use Rattle.stage.proofs.Loop.{InPlace}
use Rattle.duck.specs.Cursors.{duck_on, duck_step_on, Within}
use Rattle.duck.proofs.duck_block.Given as goal

abbrev pub invariant-loop-i : goal.invariant-loop-i
invariant-loop-i l =
    InPlace (duck_step_on l.rate l.drums) l.n (duck_on l.initial.duck l.initial.counts) l.initial.block (duck_on l.duck l.counts) l.block l.i
    × Within (duck_on l.duck l.counts)
    × (length l.counts ≡ length l.initial.counts)

abbrev pub decreases-loop-i : goal.decreases-loop-i
decreases-loop-i l = length l.initial.block - l.i
