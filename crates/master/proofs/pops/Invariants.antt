use Rattle.std.proofs.Common.{◌≡◌, length, get_or}
use lib.Ieee.{nan, le}
use Rattle.master.specs.Kept.{pop_len}
use Rattle.master.proofs.pops.Given as goal

abbrev pub invariant-loop-k : goal.invariant-loop-k
invariant-loop-k l = pop_len le (length l.ring) l.head (λ i. get_or l.ring i nan) l.need l.k ≡ pop_len le (length l.ring) l.head (λ i. get_or l.ring i nan) l.need l.len
