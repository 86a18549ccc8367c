-- `ok_drive` meets its contract. Assumes nothing.
use Rattle.strip.specs.Refusals.{ok_drive}
use lib.Ieee.{of_bits, of_int}
use Rattle.refusals.proofs.ok_drive.Goals as goal

pub returns : goal.returns
unfolding ok_drive of_bits of_int
returns c = c.in_range.ensures
