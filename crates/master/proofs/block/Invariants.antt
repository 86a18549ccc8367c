use Rattle.master.specs.Kept.{ceiling_on}
use Rattle.master.proofs.Blocks.{Running}
use Rattle.master.proofs.block.Given as goal

abbrev pub invariant-loop-i : goal.invariant-loop-i
invariant-loop-i l =
    Running l.rate l.n (ceiling_on l.initial.c l.initial.samples l.initial.counts) l.left l.right (ceiling_on l.c l.samples l.counts) l.frames l.gains l.i
