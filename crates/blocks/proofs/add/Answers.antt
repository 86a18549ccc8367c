use lib.Ieee.{nan, Float}
use lib.ListN.{get_or}
use mathlib.Core.Path.{sym, ap, ◌∙◌}
use Rattle.casts.specs.Arithmetic.{◌⊕◌}
use Rattle.blocks.proofs.Mixed.{added_length, added_at}
use Rattle.blocks.specs.Run.{added}
use Rattle.stage.proofs.Loop.{wrote_start, wrote_turn, wrote_done, ahead_start, ahead_turn, ahead_read}
use Rattle.blocks.proofs.add.Goals as goal

pub loop-i-init : goal.loop-i-init
loop-i-init c = ((wrote_start _ _ (c.requires ∙ sym (added_length _ _ c.requires)), ahead_start _), c.requires)

pub loop-i-preserved : goal.loop-i-preserved
loop-i-preserved c = let l = c.loop-i in
    let s = c.args in
    let h = rw c.requires at c.loop-i-test.true in
    let e = l.invariant.1 in (
      (
        wrote_turn (added s.dry.now s.side.now) l.side l.i _ nan l.invariant.0.0 (rw (added_length s.dry.now s.side.now e) h)
            (added_at s.dry.now s.side.now l.i e h ∙ ap (λ (v : Float). get_or s.dry.now l.i nan ⊕ v) (sym (ahead_read s.side.now l.side l.i nan l.invariant.0.1))),
        ahead_turn s.side.now l.side l.i _ l.invariant.0.1,
      ),
      e,
    )
