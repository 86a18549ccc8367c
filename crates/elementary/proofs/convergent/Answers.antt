-- `elementary::convergent` meets its contract. Assumes nothing.
use Rattle.std.proofs.Common.{rules}
use Rattle.elementary.specs.Elementary.{tanh_step}
use Rattle.elementary.specs.Convergent.{convergent}
use Rattle.elementary.proofs.convergent.Goals as goal

pub returns : goal.returns
unfolding convergent
returns c = rw (← c.from.ensures) (c.stepped.ensures (tanh_step c.args.z) (λ j t r some most p. search rules))
