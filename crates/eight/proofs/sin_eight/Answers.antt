use Rattle.eight.proofs.Waves.{sin_each}
use Rattle.eight.proofs.sin_eight.Goals as goal

pub returns : goal.returns
returns c = sin_each c.args.x c.all_turned-r.result c.wave.result c.all_turned-r.ensures c.wave.ensures
