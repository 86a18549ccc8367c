use mathlib.Core.Path.{subst⁻¹}
use Rattle.duck.specs.Cursors.{duck_on, Within}
use Rattle.duck.proofs.Loops.{gain_within, moved_is}
use Rattle.duck.proofs.moved.Goals as goal

pub returns : goal.returns
returns c =
    let a = c.args in
    let s = duck_on a.duck a.counts.now in
    let e = moved_is a.rate a.drums a.n s _ _ _ c.mark-reached.ensures c.advance-ducking.ensures in
    record { duck_after = e; within = subst⁻¹ Within e (gain_within a.rate a.drums a.n s c.requires) }
