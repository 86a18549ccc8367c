use Rattle.std.proofs.Common.{◌≤◌, length}
use Rattle.exports_stages.proofs.goqhari_test_plate.Given as goal

abbrev pub invariant-loop-len : goal.invariant-loop-len
invariant-loop-len l = l.at ≤ length l.initial.left
