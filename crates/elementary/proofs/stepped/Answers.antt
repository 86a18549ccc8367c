-- `elementary::stepped` meets its contract. The loop's invariant: the j steps that are left take t to what all n take the first value to. Assumes nothing.
use Rattle.std.proofs.Common.{◌≡◌, ◌<◌, ◌≤◌, sym, ◌∙◌, arith}
use Rattle.elementary.proofs.Down.{down_step, down_zero}
use Rattle.elementary.proofs.stepped.Goals as goal

pub loop-j-preserved : goal.loop-j-preserved
loop-j-preserved g c = λ f acts.
    let l = c.loop-j in
    let some : 0 < l.j = omega arith in
    let most : l.j ≤ c.args.n = omega arith in
    let now : c.step-t.result ≡ f l.j l.t = acts l.j l.t c.step-t.result some most c.step-t.ensures in
    rw now (sym (down_step f l.j l.t some) ∙ l.invariant f acts)

pub returns : goal.returns
returns g c = λ f acts.
    let l = c.loop-j in
    sym (down_zero f l.j l.t (omega arith)) ∙ l.invariant f acts
