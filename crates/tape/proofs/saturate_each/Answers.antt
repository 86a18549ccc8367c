use native.Mathlib.Omega.{arith}
use lib.Ieee.{nan}
use Rattle.stage.proofs.Loop.{map_start, map_turn, map_done}
use Rattle.tape.proofs.saturate_each.Goals as goal

pub loop-x-init : goal.loop-x-init
loop-x-init c = map_start _ _

pub loop-x-preserved : goal.loop-x-preserved
loop-x-preserved c = let l = c.loop-x in map_turn _ _ l.block l.x-index nan _ l.invariant (omega (arith, c.loop-x-test.true, l.invariant.ahead.sized)) c.saturate_over.ensures

pub returns : goal.returns
returns c = let l = c.loop-x in map_done _ _ l.block l.x-index l.invariant (omega (arith, c.loop-x-test.false, l.invariant.ahead.sized))
