use lib.Ieee.{of_bits}
use Rattle.oscillators.proofs.swell_by.Goals as goal

pub returns : goal.returns
unfolding of_bits
returns c = rw (c.widen.ensures, c.narrow.ensures)
