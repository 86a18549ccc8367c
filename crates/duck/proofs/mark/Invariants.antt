use Rattle.std.proofs.Common.{◌≡◌, ◌-◌}
use Rattle.duck.specs.Cursors.{reach}
use Rattle.duck.proofs.mark.Given as goal

abbrev pub invariant-loop-next : goal.invariant-loop-next
invariant-loop-next l =
    reach (l.duck.count - l.next) l.next l.n l.drums l.counts ≡ reach (l.duck.count - l.duck.reached) l.duck.reached l.n l.drums l.initial.counts
