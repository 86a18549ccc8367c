use Rattle.duck.specs.Cursors.{duck_on}
use Rattle.duck.proofs.Loops.{gain_is}
use Rattle.duck.proofs.duck_step.Goals as goal

pub returns : goal.returns
returns c =
    let a = c.args in
    let m = c.moved-duck in
    gain_is a.rate a.drums a.n (duck_on a.duck a.counts.now) (duck_on m.result m.new.counts) _ m.ensures.duck_after (rw (c.of.ensures.positions, c.of.ensures.marks) at c.product_by_two-gain.ensures)
