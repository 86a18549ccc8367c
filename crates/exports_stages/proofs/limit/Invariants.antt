use Rattle.std.proofs.Common.{◌≤◌, length, T}
use Rattle.rate.specs.Ceiling.{ceiling_rate}
use Rattle.master.specs.Kept.{ceiling_on}
use Rattle.master.specs.WellFormed.{well_formed}
use Rattle.exports_stages.proofs.limit.Given as goal

abbrev pub invariant-loop-len : goal.invariant-loop-len
invariant-loop-len l = (l.at ≤ length l.left) × T (well_formed (ceiling_rate 44100) (ceiling_on l.c l.samples l.counts))
