use Rattle.std.proofs.Common.{◌≡◌, ◌∙◌, arith}
use Rattle.duck.proofs.Loops.{flag_is, reach_more, reach_stop, reach_done}
use Rattle.duck.proofs.mark.Goals as goal

pub returns-then-n-counts : goal.returns-then-n-counts
returns-then-n-counts c = let l = c.loop-next in reach_stop _ _ l.next _ _ c.loop-next-test.true c.if-n-counts.true ∙ l.invariant

pub loop-next-preserved : goal.loop-next-preserved
loop-next-preserved c =
    let l = c.loop-next in
    rw (c.from.ensures, flag_is c.args.drums) (reach_more _ _ l.next _ _ c.loop-next-test.true c.if-n-counts.false ∙ l.invariant)

pub returns : goal.returns
returns c =
    let l = c.loop-next in
    let all : l.next ≡ c.args.duck.count = omega arith in
    rw all at (reach_done _ _ l.next _ _ c.loop-next-test.false ∙ l.invariant)
