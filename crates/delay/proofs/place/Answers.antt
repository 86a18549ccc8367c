use Rattle.std.proofs.Common.{ℕ, ◌<◌, sym, subst, mod-lt}
use Rattle.delay.proofs.Mask.{masked}
use Rattle.delay.proofs.place.Goals as goal

pub returns-then-ring-mask-eq0 : goal.returns-then-ring-mask-eq0
returns-then-ring-mask-eq0 c =
    let a = c.args in
    let e = masked a.ring a.n c.requires c.if-ring-mask-eq0.true in
    (e, subst (λ (x : ℕ). x < a.ring) (sym e) (mod-lt a.n c.requires))
