use Rattle.plate.specs.Machine.{stretch_of}
use Rattle.plate.proofs.stretch_eight.Goals as goal

pub returns : goal.returns
unfolding stretch_of
returns c = rw (c.frames.ensures, c.sin_eight.ensures, c.cos_eight.ensures, c.angles-angles.ensures)
