-- `master::enqueue` meets its contract. Assumes nothing.
use Rattle.std.proofs.Common.{◌∙◌, arith}
use Rattle.master.specs.Kept.{ceiling_on}
use Rattle.master.proofs.Queueing.{staying_part, head_went, head_stayed}
use Rattle.master.proofs.enqueue.Goals as goal

pub returns-then-head_goes : goal.returns-then-head_goes
returns-then-head_goes c =
    let s = c.args in
    let k = ceiling_on s.c s.samples.now s.counts.now in
    let q = head_went s.rate s.n k s.need _ _ _ (c.pops-staying.ensures.value ∙ staying_part s.rate k s.need (omega (arith, c.requires.sized.room))) c.wrapped-i.ensures.0 c.head_goes.ensures c.if-head_goes.true _ c.wrapped.ensures.0 in
    record { queue = q.0; samples = q.1.0; counts = q.1.1 }

pub returns : goal.returns
returns c =
    let s = c.args in
    let k = ceiling_on s.c s.samples.now s.counts.now in
    let q = head_stayed s.rate s.n k s.need _ _ _ (c.pops-staying.ensures.value ∙ staying_part s.rate k s.need (omega (arith, c.requires.sized.room))) c.wrapped-i.ensures.0 c.head_goes.ensures c.if-head_goes.false in
    record { queue = q.0; samples = q.1.0; counts = q.1.1 }
