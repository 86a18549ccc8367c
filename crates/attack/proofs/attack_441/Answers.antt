-- `attack_441` meets its contract: antt computes the rule at each of the 441 entries. Assumes nothing.
use Rattle.std.proofs.Common.{refl, ap, ◌∙◌}
use lib.Ieee.{Float}
use Rattle.attack.specs.Machine.{attack_gain}
use Rattle.attack.proofs.Relates.{floor_is, entry}
use Rattle.attack.proofs.Table.{table_entry}
use Rattle.attack.proofs.attack_441.Goals as goal

pub returns-then-j-lt441 : goal.returns-then-j-lt441
returns-then-j-lt441 c = entry c.args.j refl (table_entry c.args.j c.if-j-lt441.true)

pub returns-else-j-lt441 : goal.returns-else-j-lt441
returns-else-j-lt441 c = c.divided.ensures ∙ ap (λ (floor : Float). attack_gain floor 441 c.args.j) floor_is
