use Rattle.std.proofs.Common.{◌≡◌, map, drop}
use Rattle.duck.specs.Cursors.{is_mark, times_until}
use Rattle.duck.proofs.Kicks.product_from.Given as goal

abbrev pub invariant-loop-c : goal.invariant-loop-c
invariant-loop-c l =
    times_until l.rate l.n l.product (drop l.c l.self.positions.now) (drop l.c (map is_mark l.self.marks.now))
    ≡ times_until l.rate l.n l.gain (drop l.from l.self.positions.now) (drop l.from (map is_mark l.self.marks.now))
