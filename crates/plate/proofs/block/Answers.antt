use Rattle.std.proofs.Common.{◌≡◌, ◌+◌, length, min, arith, ◌∙◌}
use borrow.Rule.Slice.PartMut.{mid_len}
use Rattle.eight.proofs.Row.{group_end_min}
use Rattle.plate.specs.Plate.{plate_on}
use Rattle.plate.proofs.Turns.{plate_start, plate_group, plate_up_to, plate_done}
use Rattle.plate.proofs.block.Goals as goal

pub loop-i-init : goal.loop-i-init
loop-i-init c = plate_start c.args.rate _ _ _ _ c.requires.part_len.1

pub group-plate-requires : goal.group-plate-requires
group-plate-requires c =
    let l = c.loop-i in
    let p = l.invariant in
    let e = c.group_end-end.ensures in
    let a = mid_len l.i c.group_end-end.result l.left e.1 in
    let b = mid_len l.i c.group_end-end.result l.right (omega (arith, p.sized, e.1)) in
    record {
      plate_usable = c.requires.plate_usable;
      left_len_bound = omega (arith, a, e.2);
      part_len = (omega (arith, p.kept, c.requires.part_len.0), omega (arith, a, b, p.sized), omega (arith, a, e.0, e.1, p.ahead.sized, c.requires.part_len.2));
    }

pub loop-i-preserved : goal.loop-i-preserved
loop-i-preserved c =
    let l = c.loop-i in
    let e = c.group_end-end in
    let g = c.group-plate in
    let end : e.result ≡ min (l.i + 8) (length l.left) = e.ensures.3 ∙ group_end_min l.i (length l.left) (omega (arith, e.ensures.0, e.ensures.1)) in
    let full : e.result ≡ l.i + 8 = omega (arith, end, l.auto.left) in
    plate_up_to c.args.rate c.args.n _ _ (plate_on g.result g.new.part) _ _ e.result (l.i + 8) full (plate_group c.args.rate c.args.n _ _ (plate_on l.plate l.part) l.left l.right l.i e.result (plate_on g.result g.new.part) g.new.left g.new.right l.invariant (omega (arith, e.ensures.0)) e.ensures.1 g.auto.part g.ensures.plate_after g.ensures.left_after g.ensures.right_after)

pub returns-2 : goal.returns-2
returns-2 c =
    let l = c.loop-i in
    let e = c.group_end-end in
    let g = c.group-plate in
    let end : e.result ≡ min (l.i + 8) (length l.left) = e.ensures.3 ∙ group_end_min l.i (length l.left) (omega (arith, e.ensures.0, e.ensures.1)) in
    let p = plate_group c.args.rate c.args.n _ _ (plate_on l.plate l.part) l.left l.right l.i e.result (plate_on g.result g.new.part) g.new.left g.new.right l.invariant (omega (arith, e.ensures.0)) e.ensures.1 g.auto.part g.ensures.plate_after g.ensures.left_after g.ensures.right_after in
    let d = plate_done c.args.rate c.args.n _ _ (plate_on g.result g.new.part) _ _ e.result p (omega (arith, end, l.auto.left, p.ahead.sized)) in
    record { plate_after = d.0; left_after = d.1.0; right_after = d.1.1 }

pub returns : goal.returns
returns c =
    let l = c.loop-i in
    let d = plate_done c.args.rate c.args.n _ _ (plate_on l.plate l.part) l.left l.right l.i l.invariant (omega (arith, c.loop-i-test.false, l.auto.left)) in
    record { plate_after = d.0; left_after = d.1.0; right_after = d.1.1 }
