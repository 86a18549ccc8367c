use mathlib.Core.Path.{◌≡◌, sym, ap, ◌∙◌}
use Prim.Native.Nat.{◌+◌}
use mathlib.Core.Bool.{true, ◌&&◌, and-eq-true_iff}
use lib.Dec.{eqb}
use borrow.Author.Tests.{eqb-true}
use Rattle.duck.specs.declared.Duck.{Duck}
use Rattle.duck.specs.Cursors.{duck_on}
use Rattle.duck.proofs.Loops.{product_on, stays, two_are}
use Rattle.duck.proofs.duck_two.Goals as goal

cursors_same : (d e : Duck) → eqb d.count e.count && (eqb d.reached e.reached && eqb d.ducking e.ducking) ≡ true → (d.reached ≡ e.reached) × (d.ducking ≡ e.ducking)
cursors_same d e h =
    let rest = (and-eq-true_iff (eqb d.count e.count) _).0 h in
    let cursors = (and-eq-true_iff (eqb d.reached e.reached) _).0 rest.1 in
    (eqb-true _ _ cursors.0, eqb-true _ _ cursors.1)

pub returns-then-eq : goal.returns-then-eq
returns-then-eq c =
    let a = c.args in
    let f = c.moved-first in
    let m = c.moved-duck in
    let t = duck_on f.result f.new.counts in
    let u = duck_on m.result m.new.counts in
    let cursors = cursors_same m.result f.result (sym c.eq.ensures ∙ c.if-eq.true) in
    let same = stays a.rate a.drums (a.n + 1) t u m.ensures.duck_after cursors.0 cursors.1 in
    let at = rw (c.of.ensures.positions, c.of.ensures.marks) at c.products-gains.ensures.at_value in
    let after = rw (c.of.ensures.positions, c.of.ensures.marks) at c.products-gains.ensures.after_value in
    let both = two_are a.rate a.drums a.n (duck_on a.duck a.counts.now) t u _ _ f.ensures.duck_after at m.ensures.duck_after (after ∙ ap (product_on a.rate (a.n + 1)) (sym same)) in
    record { at_value = both.0; second_step = both.1 }

pub returns : goal.returns
returns c =
    let a = c.args in
    let f = c.moved-first in
    let m = c.moved-duck in
    let at = rw (c.of.ensures.positions, c.of.ensures.marks) at c.products-gains.ensures.at_value in
    let after = rw (c.of-2.ensures.positions, c.of-2.ensures.marks) at c.product-after.ensures in
    let both = two_are a.rate a.drums a.n (duck_on a.duck a.counts.now) (duck_on f.result f.new.counts) (duck_on m.result m.new.counts) _ _ f.ensures.duck_after at m.ensures.duck_after after in
    record { at_value = both.0; second_step = both.1 }
