-- `master::steps` meets its contract: 2^40 stands in the code by its bit pattern. Assumes nothing.
use lib.Ieee.{of_bits}
use Rattle.casts.specs.Step.{step_of}
use Rattle.master.proofs.steps.Goals as goal

pub returns : goal.returns
unfolding step_of of_bits
returns c = c.whole_part.ensures
