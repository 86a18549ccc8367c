-- `ok_hz` meets its contract. Assumes nothing.
use Rattle.ranges.specs.Ranges.{in_range}
use mathlib.Core.Path.{ap, ◌∙◌}
use lib.Ieee.{of_bits, of_int}
use Rattle.casts.specs.Arithmetic.{whole, nought}
use Rattle.refusals.proofs.ok_hz.Goals as goal

pub returns : goal.returns
unfolding of_bits of_int
returns c = c.in_range.ensures ∙ ap (in_range nought (whole 20)) c.widen.ensures
