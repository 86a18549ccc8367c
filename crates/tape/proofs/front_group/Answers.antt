use native.Mathlib.Omega.{arith}
use mathlib.Core.Path.{refl, ◌∙◌}
use lib.Ieee.{nan}
use Rattle.tape.specs.Kept.{front_on}
use Rattle.stage.proofs.Loop.{in_start, in_turn, in_ran, in_outs}
use Rattle.tape.proofs.front_group.Goals as goal

pub swells-swells-requires : goal.swells-swells-requires
swells-swells-requires c = (c.requires.group_bound.1, omega (arith, c.requires.group_bound.2))

pub delays-delays-requires : goal.delays-delays-requires
delays-delays-requires c = (c.requires.group_bound.1, omega (arith, c.requires.group_bound.2))

pub loop-i-init : goal.loop-i-init
loop-i-init c = (in_start _ _ _ _, refl)

pub front_step-fronted-requires : goal.front_step-fronted-requires
front_step-fronted-requires c = let l = c.loop-i in
    let p = c.requires in
    let t = c.loop-i-test.true in
    let z = l.invariant.0.ahead.sized in
    record {
      warp_fits = record { some = p.warp_fits.some; room = rw l.invariant.1 p.warp_fits.room; reach = p.warp_fits.reach };
      n_lt_last_position = omega (arith, p.group_bound.0, t, z);
      swell_value = (c.swells-swells.ensures l.i (omega (arith, t, z)), c.delays-delays.ensures l.i (omega (arith, t, z)));
    }

pub loop-i-preserved : goal.loop-i-preserved
loop-i-preserved c = let l = c.loop-i in
    let f = c.front_step-fronted in
    (in_turn _ _ _ _ (front_on l.tone l.ring) l.group l.i nan _ l.invariant.0 (omega (arith, c.loop-i-test.true, l.invariant.0.ahead.sized)) f.ensures, f.auto.ring ∙ l.invariant.1)

pub returns : goal.returns
returns c = let l = c.loop-i in
    record {
      front_after = in_ran _ _ _ _ (front_on l.tone l.ring) l.group l.i l.invariant.0 (omega (arith, c.loop-i-test.false, l.invariant.0.ahead.sized));
      group_after = in_outs _ _ _ _ (front_on l.tone l.ring) l.group l.i l.invariant.0 (omega (arith, c.loop-i-test.false, l.invariant.0.ahead.sized));
    }
