use lib.Ieee.{nan, Float}
use lib.ListN.{length-set, length-map, get_or-map}
use mathlib.Core.Path.{sym, ◌∙◌}
use mathlib.Core.List.{map}
use Rattle.casts.specs.Arithmetic.{◌⊗◌}
use Rattle.stage.proofs.Loop.{wrote_start, wrote_turn, wrote_done}
use Rattle.blocks.proofs.send.Goals as goal

pub loop-i-preserved : goal.loop-i-preserved
loop-i-preserved c = let l = c.loop-i in
    let s = c.args in
    (wrote_turn (map (λ (y : Float). y ⊗ s.level) s.dry.now) l.sent l.i _ (nan ⊗ s.level) l.invariant.0 (rw (length-map s.dry.now (λ (y : Float). y ⊗ s.level)) (rw c.requires at c.loop-i-test.true)) (get_or-map (λ (y : Float). y ⊗ s.level) s.dry.now l.i nan), simp length-set l.invariant.1)
