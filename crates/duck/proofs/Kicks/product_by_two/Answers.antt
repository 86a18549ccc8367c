use Rattle.std.proofs.Common.{sym, ◌∙◌, rules, arith}
use Rattle.duck.proofs.Loops.{sounds_says, times_two_more}
use Rattle.duck.proofs.Kicks.product_by_two.Goals as goal

pub loop-c-preserved : goal.loop-c-preserved
loop-c-preserved c =
    let l = c.loop-c in
    let s = c.args.self in
    let first = sounds_says _ _ _ _ (sym c.sounds.ensures ∙ c.if-sounds.true) in
    let second = sounds_says _ _ _ _ (sym c.sounds-then-sounds.ensures ∙ c.if-sounds-2.true) in
    (search rules, rw c.times_two-gain.ensures (times_two_more s.positions.now s.marks.now s.one_mark_each _ _ l.c l.gain (omega arith) first.1 second.1 first.0 second.0 ∙ l.invariant.1))
