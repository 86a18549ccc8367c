use Rattle.std.proofs.Common.{◌≤◌, arith, rules}
use Rattle.delay.specs.Delay.{tap_of}
use Rattle.delay.proofs.Whole.{held_small}
use Rattle.delay.proofs.tap.Goals.{After-whole_part-whole}
use Rattle.delay.proofs.tap.Goals as goal

small : (c : After-whole_part-whole) → c.whole_part-whole.result ≤ 65536
small c = rw (c.whole_part-whole.ensures, c.held-d.ensures) (held_small c.args.delay c.args.max_delay c.requires.1)

pub at-requires : goal.at-requires
at-requires c = (search rules, omega (arith, small (goal.at.at-requires c).After-whole_part-whole))

pub overflow_add-whole : goal.overflow_add-whole
overflow_add-whole c = record { fits = omega (arith, small (goal.at.overflow_add-whole c).After-whole_part-whole) }

pub at-requires-2 : goal.at-requires-2
at-requires-2 c = (search rules, omega (arith, small (goal.at.at-requires-2 c).After-whole_part-whole))

pub returns : goal.returns
unfolding tap_of
returns c = rw (c.at-2.ensures, c.at.ensures, c.nearest_u64_to_f64.ensures, c.whole_part-whole.ensures, c.held-d.ensures)
