-- `Rate::cd` meets its contract: its parts are the stages' own. Assumes nothing.
use Rattle.rate.specs.Rate.{rate_of}
use Rattle.rate.proofs.Rate.cd.Goals as goal

pub returns : goal.returns
unfolding rate_of
returns c = rw (c.cd-3.ensures, c.cd-2.ensures, c.cd.ensures)
