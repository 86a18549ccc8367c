use Rattle.std.proofs.Common.{◌-◌, ◌≤◌, length}
use Rattle.exports_stages.proofs.lane.Lane.run.Given as goal

abbrev pub invariant-loop-at : goal.invariant-loop-at
invariant-loop-at l = l.at ≤ length l.initial.block

abbrev pub decreases-loop-at : goal.decreases-loop-at
decreases-loop-at l = length l.initial.block - l.at
