use native.Mathlib.Omega.{arith}
use lib.Ieee.{nan}
use Rattle.stage.proofs.Loop.{in_start, in_turn, in_ran, in_outs}
use Rattle.tape.proofs.equalizer_block.Goals as goal

pub loop-i-init : goal.loop-i-init
loop-i-init c = in_start _ _ _ _

pub loop-i-preserved : goal.loop-i-preserved
loop-i-preserved c = let l = c.loop-i in
    in_turn _ _ _ _ l.equalizer l.block l.i nan _ l.invariant (omega (arith, c.loop-i-test.true, l.invariant.ahead.sized)) c.step-equalized.ensures

pub returns : goal.returns
returns c = let l = c.loop-i in
    record { value = in_ran _ _ _ _ l.equalizer l.block l.i l.invariant (omega (arith, c.loop-i-test.false, l.invariant.ahead.sized)); block_after = in_outs _ _ _ _ l.equalizer l.block l.i l.invariant (omega (arith, c.loop-i-test.false, l.invariant.ahead.sized)) }
