use Rattle.eight.proofs.Alike.{tanh_each}
use Rattle.eight.proofs.tanh_eight.Goals as goal

pub returns : goal.returns
returns c = tanh_each c.args.x c.all_held.result c.denominators.result c.denominators.ensures c.all_held.ensures
