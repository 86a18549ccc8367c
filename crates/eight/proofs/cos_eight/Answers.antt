use Rattle.eight.proofs.Waves.{cos_each}
use Rattle.eight.proofs.cos_eight.Goals as goal

pub returns : goal.returns
returns c = cos_each c.args.x c.all_turned-r.result c.wave.result c.all_turned-r.ensures c.wave.ensures
