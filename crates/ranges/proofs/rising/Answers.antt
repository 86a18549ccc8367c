-- `ranges::rising` meets its contract. The loop's invariant: where all that was joined is below reach, the last position is. Assumes nothing.
use Rattle.std.proofs.Common.{◌≡◌, ◌+◌, ◌-◌, ◌%◌, ◌<◌, get_or, ◌∙◌, arith, lt-ltb, le-ltb}
use Rattle.ranges.proofs.Lists.{reach, part_below, rising_more, rising_done}
use Rattle.ranges.proofs.rising.Goals as goal

pub loop-k-preserved : goal.loop-k-preserved
loop-k-preserved c =
    let l = c.loop-k in
    let list = c.args.list.now in
    let k = get_or list l.k-index 0 in
    let d = (k + (18446744073709551616 - l.least)) % 18446744073709551616 in
    let fits : d < 18446744073709551616 = omega arith in
    let back : (d + l.least) % 18446744073709551616 ≡ k = omega arith in (
      λ h. part_below l.joined k d h,
      rising_more list l.least l.k-index l.joined d c.loop-k-test.true back fits l.invariant.0 ∙ l.invariant.1,
    )

pub returns-then-joined-lt-REACH : goal.returns-then-joined-lt-REACH
returns-then-joined-lt-REACH c =
    let l = c.loop-k in
    rw (lt-ltb l.joined reach c.if-joined-lt-REACH.true) at (rising_done c.args.list.now l.least l.k-index l.joined c.loop-k-test.false ∙ l.invariant.1)

pub returns-else-joined-lt-REACH : goal.returns-else-joined-lt-REACH
returns-else-joined-lt-REACH c =
    let l = c.loop-k in
    let above = le-ltb l.joined reach c.if-joined-lt-REACH.false in
    rw above (rw above at (rising_done c.args.list.now l.least l.k-index l.joined c.loop-k-test.false ∙ l.invariant.1))
