-- `master::block` meets its contract, by the laws of `Blocks`. Assumes nothing.
use Rattle.std.proofs.Common.{arith}
use Rattle.master.specs.Kept.{ceiling_on, gave}
use Rattle.master.proofs.Ready.{ready_of, of_ready}
use Rattle.master.proofs.Blocks.{block_start, block_turn, block_done}
use Rattle.master.proofs.block.Goals as goal

pub loop-i-init : goal.loop-i-init
loop-i-init c = block_start _ c.requires.usable _ _ _ _ c.requires.left_bound.1 _ _ (ready_of _ _ c.requires.sized c.requires.is_well_formed) c.requires.frames_len.0 c.requires.frames_len.1

pub step-t-requires : goal.step-t-requires
step-t-requires c =
    let l = c.loop-i in
    record { usable = c.requires.usable; sized = l.invariant.ready.sized; is_well_formed = of_ready _ _ l.invariant.ready; n_lt_last_position = omega (arith, c.requires.left_bound.0, c.loop-i-test.true) }

pub loop-i-preserved : goal.loop-i-preserved
loop-i-preserved c =
    let l = c.loop-i in
    let w = c.step-t in
    block_turn c.args.rate c.requires.usable c.args.n _ _ _ c.requires.left_bound.1 (ceiling_on l.c l.samples l.counts) l.frames l.gains l.i (gave w.result.ceiling w.new.samples w.new.counts w.result.heard) l.invariant c.loop-i-test.true w.auto.samples w.auto.counts w.ensures

pub returns : goal.returns
returns c =
    let l = c.loop-i in
    let q =
    block_done c.args.rate c.requires.usable c.args.n _ _ _ c.requires.left_bound.1 (ceiling_on l.c l.samples l.counts) l.frames l.gains l.i l.invariant c.loop-i-test.false in
    record { ceiling_after = q.0; frames_after = q.1.0; gains_after = q.1.1 }
