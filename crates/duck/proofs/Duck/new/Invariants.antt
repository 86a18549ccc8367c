use Rattle.std.proofs.Common.{◌≡◌}
use Rattle.duck.proofs.Loops.{laid_up_to}
use Rattle.duck.proofs.Duck.new.Given as goal

abbrev pub invariant-loop-i : goal.invariant-loop-i
invariant-loop-i l = l.counts ≡ laid_up_to l.i l.kicks l.initial.counts
