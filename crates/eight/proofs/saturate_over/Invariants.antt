use Rattle.std.proofs.Common.{◌≡◌, ◌-◌, ◌≤◌, length}
use Rattle.eight.specs.Each.{saturated_over}
use Rattle.eight.proofs.Groups.{done_to}
use Rattle.eight.proofs.saturate_over.Given as goal

abbrev pub invariant-loop-i : goal.invariant-loop-i
invariant-loop-i l = record { within : l.i ≤ length l.initial.s; done : l.s ≡ done_to (saturated_over l.drive l.top) l.initial.s l.i }

abbrev pub decreases-loop-i : goal.decreases-loop-i
decreases-loop-i l = length l.initial.s - l.i
