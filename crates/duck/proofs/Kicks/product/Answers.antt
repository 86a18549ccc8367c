use Rattle.duck.proofs.Loops.{times_stop, times_done}
use Rattle.duck.proofs.Kicks.product.Goals.{else-from-self-via-then-from-self+else-self-from, else-from-self-via-else-from-self}
use Rattle.duck.proofs.Kicks.product.Goals as goal

pub returns-else-from-self : goal.returns-else-from-self
returns-else-from-self c = elim c.else-from-self.branch [
  | else-from-self-via-then-from-self+else-self-from w ↦ times_stop _ _ _ _ _ _ w.if-from-self.true w.if-self-from.false
  | else-from-self-via-else-from-self w ↦ times_done _ _ _ _ _ _ w.if-from-self.false
]
