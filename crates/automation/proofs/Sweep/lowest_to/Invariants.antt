use Rattle.automation.proofs.Relates.{TieFrom}
use Rattle.automation.proofs.Sweep.lowest_to.Given as goal

abbrev pub invariant-loop-i : goal.invariant-loop-i
invariant-loop-i l = TieFrom l.self.positions.now l.self.values.now l.e l.i l.lowest
