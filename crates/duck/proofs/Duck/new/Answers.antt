use Rattle.std.proofs.Common.{◌+◌, List, ℕ, get_or, set, sym, ap, ◌∙◌, take-append-drop}
use Rattle.ranges.specs.Ranges.{most_kicks}
use Rattle.duck.proofs.Loops.{laid_turn}
use Rattle.duck.proofs.Duck.new.Goals as goal

pub loop-i-init : goal.loop-i-init
loop-i-init c = sym (take-append-drop most_kicks c.args.counts.now)

pub loop-i-preserved : goal.loop-i-preserved
loop-i-preserved c =
    let l = c.loop-i in
    let a = c.args in
    let p = c.requires in
    ap (λ (u : List ℕ). set (set u l.i (get_or a.kicks.now l.i 0)) (most_kicks + l.i) 0) l.invariant ∙ laid_turn a.kicks.now a.counts.now p.0 p.1 l.i c.loop-i-test.true
