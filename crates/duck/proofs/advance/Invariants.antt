use Rattle.std.proofs.Common.{◌≡◌, ◌+◌, drop}
use Rattle.duck.specs.Cursors.{kicks_in, released}
use Rattle.duck.proofs.advance.Given as goal

abbrev pub invariant-loop-first : goal.invariant-loop-first
invariant-loop-first l =
    l.first + released l.rate l.n (drop l.first (kicks_in l.duck.count l.counts)) ≡ l.duck.ducking + released l.rate l.n (drop l.duck.ducking (kicks_in l.duck.count l.counts))
