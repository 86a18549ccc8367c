use native.Mathlib.Omega.{arith}
use Prim.Native.Nat.{◌+◌}
use mathlib.Core.Path.{◌≡◌, refl, ◌∙◌}
use Rattle.tape.specs.Kept.{front_on}
use Rattle.stage.proofs.Loop.{in_start, in_ran, in_outs}
use Rattle.stage.proofs.Block.{in_block}
use Rattle.tape.proofs.front_block.Goals as goal

pub loop-i-init : goal.loop-i-init
loop-i-init c = (in_start _ _ _ _, refl)

pub front_group-tone-requires : goal.front_group-tone-requires
front_group-tone-requires c =
    let l = c.loop-i in
    let p = c.requires in
    let z = l.invariant.0.ahead.sized in
    let t = c.loop-i-test.true in
    let e = c.min-end.ensures in
    record {
      warp_fits = record { some = p.warp_fits.some; room = rw l.invariant.1 p.warp_fits.room; reach = p.warp_fits.reach };
      group_bound = (omega (arith, p.block_bound, e, t, z), omega (arith, p.block_bound, t), omega (arith, e, t, z));
    }

pub loop-i-preserved : goal.loop-i-preserved
loop-i-preserved c =
    let l = c.loop-i in
    let g = c.front_group-tone in
    let z = l.invariant.0.ahead.sized in
    let q : c.min-end.result ≡ l.i + 8 = omega (arith, c.min-end.ensures, z, c.loop-i-test.true) in
    rw (← q) (in_block _ _ _ _ (front_on l.tone l.ring) l.block l.i _ _ _ l.invariant.0 (omega arith) (omega (arith, c.min-end.ensures)) g.ensures.front_after g.ensures.group_after, g.auto.ring ∙ l.invariant.1)

pub returns : goal.returns
returns c =
    let l = c.loop-i in
    let z = l.invariant.0.ahead.sized in
    record {
      front_after = in_ran _ _ _ _ (front_on l.tone l.ring) l.block l.i l.invariant.0 (omega (arith, z, c.loop-i-test.false));
      block_after = in_outs _ _ _ _ (front_on l.tone l.ring) l.block l.i l.invariant.0 (omega (arith, z, c.loop-i-test.false));
    }

pub returns-2 : goal.returns-2
returns-2 c =
    let l = c.loop-i in
    let g = c.front_group-tone in
    let z = l.invariant.0.ahead.sized in
    let b = in_block _ _ _ _ (front_on l.tone l.ring) l.block l.i _ _ _ l.invariant.0 (omega (arith, c.min-end.ensures, c.loop-i-test.true, z)) (omega (arith, c.min-end.ensures)) g.ensures.front_after g.ensures.group_after in
    record {
      front_after = in_ran _ _ _ _ (front_on g.result g.new.ring) _ _ b (omega (arith, b.ahead.sized, z, c.min-end.ensures, c.loop-i-test.true));
      block_after = in_outs _ _ _ _ (front_on g.result g.new.ring) _ _ b (omega (arith, b.ahead.sized, z, c.min-end.ensures, c.loop-i-test.true));
    }
