use Rattle.std.proofs.Common.{rules, arith}
use Rattle.allpass.specs.Allpass.{gave}
use Rattle.plate.specs.Plate.{plate_on}
use Rattle.plate.proofs.Turns.{plate_start, plate_turn, plate_done}
use Rattle.plate.proofs.group.Goals as goal

pub loop-i-init : goal.loop-i-init
loop-i-init c = plate_start c.args.rate _ _ _ _ c.requires.part_len.1

pub step-g-requires : goal.step-g-requires
step-g-requires c = let l = c.loop-i in record { plate_usable = c.requires.plate_usable; stretch_value = c.lfo-stretches.ensures l.i _ c.loop-i-test.true; part_len = search rules }

pub loop-i-preserved : goal.loop-i-preserved
loop-i-preserved c =
    let l = c.loop-i in
    let g = c.step-g in
    plate_turn c.args.rate c.args.n _ _ (plate_on l.plate l.part) l.left l.right l.i (gave (plate_on g.result.plate g.new.part) g.result.frame) l.invariant (omega (arith, c.loop-i-test.true, l.auto.left)) g.auto.part g.ensures

pub returns : goal.returns
returns c =
    let l = c.loop-i in
    let d = plate_done c.args.rate c.args.n _ _ (plate_on l.plate l.part) l.left l.right l.i l.invariant (omega (arith, c.loop-i-test.false, l.auto.left)) in
    record { plate_after = d.0; left_after = d.1.0; right_after = d.1.1 }
