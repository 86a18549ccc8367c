use Rattle.std.proofs.Common.{◌≡◌, sym, ◌∙◌, arith}
use Rattle.duck.proofs.Loops.{released_more, released_stop, released_done}
use Rattle.duck.proofs.advance.Goals as goal

pub returns-then-not-has_released : goal.returns-then-not-has_released
returns-then-not-has_released c =
    let l = c.loop-first in
    let w = c.requires in
    released_stop _ _ w.few w.sized _ _ l.first c.loop-first-test.true (sym c.has_released.ensures ∙ c.if-not-has_released.true) ∙ l.invariant

pub loop-first-preserved : goal.loop-first-preserved
loop-first-preserved c =
    let l = c.loop-first in
    let w = c.requires in
    released_more _ _ w.few w.sized _ _ l.first c.loop-first-test.true (sym c.has_released.ensures ∙ c.if-not-has_released.false) ∙ l.invariant

pub returns : goal.returns
returns c =
    let l = c.loop-first in
    let w = c.requires in
    let all : l.first ≡ c.args.duck.count = omega (arith, w.ducking) in
    sym all ∙ (released_done _ _ w.few w.sized _ _ l.first c.loop-first-test.false ∙ l.invariant)
