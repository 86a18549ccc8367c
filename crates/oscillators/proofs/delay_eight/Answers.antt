use Rattle.oscillators.specs.Oscillators.{warp_delay}
use Rattle.oscillators.proofs.delay_eight.Goals as goal

pub returns : goal.returns
unfolding warp_delay
returns c = rw (c.sin_eight-flutter.ensures, c.sin_eight-wow.ensures, c.counts-count.ensures)
