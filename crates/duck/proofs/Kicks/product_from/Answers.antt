use Rattle.std.proofs.Common.{◌∙◌}
use Rattle.duck.proofs.Loops.{times_more, times_stop, times_done}
use Rattle.duck.proofs.Kicks.product_from.Goals as goal

pub loop-c-preserved : goal.loop-c-preserved
loop-c-preserved c =
    let s = c.args.self in
    rw c.times_gain-product.ensures (times_more s.positions.now s.marks.now s.one_mark_each _ _ c.loop-c.c _ c.loop-c-test.true c.if-n-kick.false ∙ c.loop-c.invariant)

pub returns-then-n-kick : goal.returns-then-n-kick
returns-then-n-kick c = let s = c.args.self in times_stop s.positions.now s.marks.now _ _ c.loop-c.c _ c.loop-c-test.true c.if-n-kick.true ∙ c.loop-c.invariant

pub returns-after-loop-c : goal.returns-after-loop-c
returns-after-loop-c c = let s = c.args.self in times_done s.positions.now s.marks.now _ _ c.loop-c.c _ c.loop-c-test.false ∙ c.loop-c.invariant
