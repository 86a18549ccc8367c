-- `elementary::denominator` meets its contract. Assumes nothing.
use Rattle.std.proofs.Common.{◌∙◌}
use Rattle.casts.specs.Arithmetic.{◌⊗◌}
use Rattle.elementary.proofs.Ordered.{square_unsigned}
use Rattle.elementary.proofs.Convergents.{settled}
use Rattle.elementary.proofs.denominator.Goals as goal

pub returns-then-t-convergent : goal.returns-then-t-convergent
returns-then-t-convergent c =
    let v = c.args.v in
    let s = c.steps-n in
    let e = c.convergent-t.ensures in
    e ∙ settled (v ⊗ v) s.result (square_unsigned v) s.ensures.0 s.ensures.1 (rw (e, c.convergent.ensures) at c.if-t-convergent.true)
