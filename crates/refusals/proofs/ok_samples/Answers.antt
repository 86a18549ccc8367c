-- `ok_samples` meets its contract. Assumes nothing.
use Rattle.strip.specs.Refusals.{ok_samples}
use lib.Ieee.{of_bits, of_int, neg}
use Rattle.refusals.proofs.ok_samples.Goals as goal

pub returns : goal.returns
unfolding ok_samples of_bits of_int neg
returns c = c.all_in_range.ensures
