use Rattle.std.proofs.Common.{◌+◌}
use Rattle.eight.proofs.Row.{laid_eight}
use Rattle.oscillators.specs.Oscillators.{warp_delay}
use Rattle.oscillators.proofs.delays.Goals as goal

pub returns-else-count-lt2 : goal.returns-else-count-lt2
returns-else-count-lt2 c = laid_eight (λ k. warp_delay c.args.rate (c.args.n + k)) c.args.count c.delay_eight.result c.requires.1 c.delay_eight.ensures
