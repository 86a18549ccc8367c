use Rattle.std.proofs.Common.{◌≡◌}
use Rattle.eight.specs.Each.{saturated_over}
use Rattle.eight.proofs.Groups.{done_to}
use Rattle.eight.proofs.saturate_group.Given as goal

abbrev pub invariant-loop-i : goal.invariant-loop-i
invariant-loop-i l = l.s ≡ done_to (saturated_over l.drive l.top) l.initial.s l.i
