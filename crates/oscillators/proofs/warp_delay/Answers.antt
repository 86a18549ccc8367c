use Rattle.oscillators.specs.Oscillators.{warp_delay}
use Rattle.oscillators.proofs.warp_delay.Goals as goal

pub returns : goal.returns
unfolding warp_delay
returns c = rw (c.sin-flutter.ensures, c.sin-wow.ensures, c.nearest_u64_to_f64-count.ensures)
