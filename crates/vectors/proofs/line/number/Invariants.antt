-- `vectors::line::number` meets its contract. Assumes nothing.
use Rattle.std.proofs.Common.{◌≡◌, ◌<◌, ◌^◌}
use Rattle.vectors.specs.Line.{number_of_digits}
use Rattle.vectors.proofs.line.number.Given as goal

abbrev pub invariant-loop-i : goal.invariant-loop-i
invariant-loop-i l = (l.value ≡ number_of_digits l.fn.field l.i) × (number_of_digits l.fn.field l.i < 16 ^ l.i)
