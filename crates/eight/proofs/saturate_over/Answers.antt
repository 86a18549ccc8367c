use Rattle.std.proofs.Common.{◌≡◌, ◌+◌, length, arith, ap, ◌∙◌, min}
use Rattle.eight.specs.Each.{saturated_over}
use Rattle.eight.proofs.Groups.{done_to, done_group, done_all}
use Rattle.eight.proofs.Row.{group_end_min}
use Rattle.eight.proofs.saturate_over.Goals as goal

pub loop-i-preserved : goal.loop-i-preserved
loop-i-preserved c =
    let l = c.loop-i in
    let e = c.group_end-end in
    let f = saturated_over c.args.drive c.args.top in
    let h : e.result ≡ min (l.i + 8) (length l.s) = e.ensures.3 ∙ group_end_min l.i (length l.s) (omega (arith, e.ensures.0, e.ensures.1)) in
    let full : e.result ≡ l.i + 8 = omega (arith, h, l.auto.s) in record {
      within = omega (arith, full, e.ensures.1, l.auto.s);
      done = done_group f c.args.s.now l.i e.result l.s c.saturate_group.new.s l.invariant.done (omega (arith, e.ensures.0)) (omega (arith, e.ensures.1, l.auto.s)) c.saturate_group.ensures ∙ ap (done_to f c.args.s.now) full;
    }

pub returns-2 : goal.returns-2
returns-2 c =
    let l = c.loop-i in
    let e = c.group_end-end in
    let f = saturated_over c.args.drive c.args.top in
    let h : e.result ≡ min (l.i + 8) (length l.s) = e.ensures.3 ∙ group_end_min l.i (length l.s) (omega (arith, e.ensures.0, e.ensures.1)) in
    done_group f c.args.s.now l.i e.result l.s c.saturate_group.new.s l.invariant.done (omega (arith, e.ensures.0)) (omega (arith, e.ensures.1, l.auto.s)) c.saturate_group.ensures ∙ done_all f c.args.s.now e.result (omega (arith, h, l.auto.s))
