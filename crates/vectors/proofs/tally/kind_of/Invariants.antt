use Rattle.std.proofs.Common.{◌≢◌, ◌<◌, ℕ, get_or}
use Rattle.vectors.specs.Line.{name_of}
use Rattle.vectors.proofs.tally.kind_of.Given as goal

abbrev pub invariant-loop-kind : goal.invariant-loop-kind
invariant-loop-kind g l = (k : ℕ) → k < l.kind-index → (d : g.row.K.Denot) → g.K.Kind.letters (get_or l.kinds k d) ≢ name_of l.fn.line
