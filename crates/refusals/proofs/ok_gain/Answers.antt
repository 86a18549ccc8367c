-- `ok_gain` meets its contract. Assumes nothing.
use Rattle.strip.specs.Refusals.{ok_gain}
use lib.Ieee.{of_bits, of_int}
use Rattle.refusals.proofs.ok_gain.Goals as goal

pub returns : goal.returns
unfolding ok_gain of_bits of_int
returns c = c.in_range.ensures
