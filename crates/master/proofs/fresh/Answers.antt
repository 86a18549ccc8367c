-- `master::fresh` meets its contract. Assumes nothing.
use Rattle.std.proofs.Common.{◌+◌, ◌++◌, drop, refl, arith}
use Rattle.master.specs.Kept.{ceiling_fresh}
use Rattle.master.proofs.Opening.{filled_length, filled_front, filled_mid}
use Rattle.master.proofs.fresh.Goals as goal

pub returns : goal.returns
unfolding ceiling_fresh
returns c =
    let s = c.args in
    let places = s.rate.window + 1 in
    let e = filled_front s.samples.now c.fill.new.self _ _ (omega (arith, c.requires.sized.room)) (c.fill.ensures.after (λ y q. q)) in
    let g = filled_front s.counts.now c.fill-2.new.self _ _ (omega (arith, c.requires.sized.rooms)) (c.fill-2.ensures.after (λ y q. q)) in
    let h = filled_mid (c.fill-2.new.self ++ drop places s.counts.now) c.fill-3.new.self places (s.rate.ahead + 1) 1099511627776 (rw (g, filled_length) (omega (arith, c.requires.sized.rooms))) (c.fill-3.ensures.after (λ y q. q)) in
    rw (e, h, g) refl
