use Rattle.std.proofs.Common.{zero, suc, ◌+◌, arith, add-zero}
use Rattle.eight.proofs.Row.{at_eight}
use Rattle.plate.specs.Machine.{stretch_of}
use Rattle.plate.proofs.lfo.Goals as goal

pub returns-then-count-lt2 : goal.returns-then-count-lt2
returns-then-count-lt2 c zero d h = rw add-zero c.stretch.ensures
returns-then-count-lt2 c (suc j) d h = absurd (omega (arith, h, c.if-count-lt2.true))

pub returns-else-count-lt2 : goal.returns-else-count-lt2
returns-else-count-lt2 c j d h = at_eight (λ i. stretch_of c.args.rate (c.args.n + i)) c.stretch_eight.result j d c.stretch_eight.ensures (omega (arith, h, c.requires.1))
