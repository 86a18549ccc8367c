use Rattle.std.proofs.Common.{◌≡◌, ◌+◌, ◌-◌, ◌≤◌, length, map, drop}
use Rattle.casts.specs.Arithmetic.{one}
use Rattle.duck.specs.Cursors.{is_mark, times_until}
use Rattle.duck.proofs.Kicks.past_attacks.Given as goal

abbrev pub invariant-loop-next : goal.invariant-loop-next
invariant-loop-next l =
    (l.next ≤ length l.self.positions.now)
    × (times_until l.rate l.n l.gains.at (drop l.next l.self.positions.now) (drop l.next (map is_mark l.self.marks.now))
    ≡ times_until l.rate l.n one (drop l.from l.self.positions.now) (drop l.from (map is_mark l.self.marks.now)))
    × (times_until l.rate (l.n + 1) l.gains.after (drop l.next l.self.positions.now) (drop l.next (map is_mark l.self.marks.now))
    ≡ times_until l.rate (l.n + 1) one (drop l.from l.self.positions.now) (drop l.from (map is_mark l.self.marks.now)))

abbrev pub decreases-loop-next : goal.decreases-loop-next
decreases-loop-next l = length l.self.positions.now - l.next
