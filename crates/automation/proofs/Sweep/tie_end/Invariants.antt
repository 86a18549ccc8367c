use Rattle.std.proofs.Common.{◌≡◌, ◌+◌, get_or, drop}
use Rattle.automation.specs.Kept.{tied, tie_end}
use Rattle.automation.proofs.Sweep.tie_end.Given as goal

abbrev pub invariant-loop-e : goal.invariant-loop-e
invariant-loop-e l = l.e + tied (get_or l.self.positions.now l.i 0) (drop l.e l.self.positions.now) ≡ tie_end l.self.positions.now l.i
