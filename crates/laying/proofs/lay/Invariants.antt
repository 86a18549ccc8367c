use Rattle.laying.proofs.Laid.{Laid}
use Rattle.laying.proofs.lay.Given as goal

abbrev pub invariant-loop-i : goal.invariant-loop-i
invariant-loop-i g l = Laid l.list l.initial.part l.part l.i
