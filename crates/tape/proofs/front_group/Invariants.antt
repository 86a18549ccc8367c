use mathlib.Core.Path.{◌≡◌}
use lib.ListN.{length}
use Rattle.tape.specs.Kept.{front_step_on, front_on}
use Rattle.stage.proofs.Loop.{InPlace}
use Rattle.tape.proofs.front_group.Given as goal

abbrev pub invariant-loop-i : goal.invariant-loop-i
invariant-loop-i l = InPlace (front_step_on l.rate l.setup) l.n (front_on l.initial.tone l.initial.ring) l.initial.group (front_on l.tone l.ring) l.group l.i × (length l.ring ≡ length l.initial.ring)
