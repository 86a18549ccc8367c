-- `open_lane` meets its contract. Assumes nothing.
use Rattle.strip.specs.Kept.{opened_lane}
use Rattle.opening.proofs.open_lane.Goals as goal

pub returns : goal.returns
unfolding opened_lane
returns c =
    rw (c.fresh-tape.ensures, c.held-rain.ensures, c.widen-2.ensures, c.held-daylight.ensures, c.widen.ensures, c.lay_counts.ensures, c.lay_samples.ensures)
