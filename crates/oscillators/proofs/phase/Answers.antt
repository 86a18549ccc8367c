use Rattle.oscillators.specs.Oscillators.{phase_of}
use Rattle.oscillators.proofs.phase.Goals as goal

pub returns : goal.returns
unfolding phase_of
returns c = rw (c.widen-2.ensures, c.narrow.ensures, c.floor.ensures, c.nearest_u64_to_f64.ensures, c.widen.ensures)
