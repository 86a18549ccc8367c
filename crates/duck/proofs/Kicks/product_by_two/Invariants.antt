use Rattle.std.proofs.Common.{◌≡◌, ◌-◌, ◌≤◌, map, length, drop}
use Rattle.casts.specs.Arithmetic.{one}
use Rattle.duck.specs.Cursors.{is_mark, times_until}
use Rattle.duck.proofs.Kicks.product_by_two.Given as goal

abbrev pub invariant-loop-c : goal.invariant-loop-c
invariant-loop-c l =
    (l.c ≤ length l.self.positions.now)
    × (times_until l.rate l.n l.gain (drop l.c l.self.positions.now) (drop l.c (map is_mark l.self.marks.now))
    ≡ times_until l.rate l.n one (drop l.from l.self.positions.now) (drop l.from (map is_mark l.self.marks.now)))

abbrev pub decreases-loop-c : goal.decreases-loop-c
decreases-loop-c l = length l.self.positions.now - l.c
