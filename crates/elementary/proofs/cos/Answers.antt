-- `elementary::cos` meets its contract. Assumes nothing.
use Rattle.std.proofs.Common.{◌≡◌, rules}
use Rattle.casts.specs.Arithmetic.{◌⊗◌, one}
use Rattle.elementary.specs.Elementary.{COS, cos_step, down}
use Rattle.elementary.proofs.cos.Goals as goal

pub returns : goal.returns
unfolding COS
returns c =
    let z = c.turned-r.result ⊗ c.turned-r.result in
    let s : c.stepped.result ≡ down (cos_step z) 14 one = c.stepped.ensures (cos_step z) (λ j t r some most p. search rules) in
    rw (s, c.turned-r.ensures)
