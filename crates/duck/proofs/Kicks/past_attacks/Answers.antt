use Rattle.std.proofs.Common.{◌≡◌, ◌≤◌, ◌+◌, ◌-◌, get_or, sym, ◌∙◌, arith, rules}
use Rattle.duck.proofs.Loops.{attacked_says, times_more}
use Rattle.duck.proofs.Kicks.past_attacks.Goals as goal

pub loop-next-preserved : goal.loop-next-preserved
loop-next-preserved c =
    let l = c.loop-next in
    let a = c.args in
    let s = a.self in
    let g = c.times_gains-gains.ensures in
    let kick = get_or s.positions.now l.next 0 in
    let up : kick ≤ a.n = (attacked_says _ _ _ (sym c.has_attacked.ensures ∙ c.if-has_attacked.true)).0 in
    let later : kick ≤ a.n + 1 = omega arith in
    let since : a.n - kick + 1 ≡ a.n + 1 - kick = omega arith in (
      search rules,
      rw g.at_value (times_more s.positions.now s.marks.now s.one_mark_each _ _ l.next l.gains.at c.loop-next-test.true up ∙ l.invariant.1),
      rw (g.after_value, since) (times_more s.positions.now s.marks.now s.one_mark_each _ _ l.next l.gains.after c.loop-next-test.true later ∙ l.invariant.2),
    )
