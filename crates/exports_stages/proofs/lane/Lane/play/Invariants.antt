use Rattle.std.proofs.Common.{◌≤◌, length}
use Rattle.exports_stages.proofs.lane.Lane.play.Given as goal

abbrev pub invariant-loop-call : goal.invariant-loop-call
invariant-loop-call l = l.at ≤ length l.initial.samples
