-- `ok_corner` meets its contract. Assumes nothing.
use Rattle.ranges.specs.Ranges.{in_range}
use Rattle.strip.specs.Refusals.{ok_corner}
use mathlib.Core.Path.{ap, ◌∙◌}
use lib.Ieee.{of_bits, of_int}
use Rattle.casts.specs.Arithmetic.{whole}
use Rattle.refusals.proofs.ok_corner.Goals as goal

pub returns : goal.returns
unfolding ok_corner of_bits of_int
returns c = c.in_range.ensures ∙ ap (in_range (whole 20) (whole 20000)) c.widen.ensures
