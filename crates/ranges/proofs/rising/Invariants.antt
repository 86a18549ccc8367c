use Rattle.std.proofs.Common.{◌≡◌, ◌<◌, ◌&&◌, ltb, leb, drop}
use Rattle.ranges.specs.Ranges.{last_position, rising_from}
use Rattle.ranges.proofs.Lists.{reach}
use Rattle.ranges.proofs.rising.Given as goal

abbrev pub invariant-loop-k : goal.invariant-loop-k
invariant-loop-k l =
    (l.joined < reach → l.least < reach) × ((ltb l.joined reach && (leb l.least last_position && rising_from l.least (drop l.k-index l.list))) ≡ rising_from 0 l.list)
