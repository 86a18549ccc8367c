use Rattle.std.proofs.Common.{rules}
use Rattle.duck.specs.Cursors.{duck_formed}
use Rattle.duck.proofs.formed.Goals as goal

pub returns-then-duck-2 : goal.returns-then-duck-2
unfolding duck_formed
returns-then-duck-2 c = search rules

pub returns-else-duck-2 : goal.returns-else-duck-2
unfolding duck_formed
returns-else-duck-2 c = search rules
