use Rattle.eight.specs.Each.{saturated_over}
use Rattle.stage.proofs.Loop.{MapIn}
use Rattle.tape.proofs.saturate_each.Given as goal

abbrev pub invariant-loop-x : goal.invariant-loop-x
invariant-loop-x l = MapIn (saturated_over l.drive l.top) l.initial.block l.block l.x-index
