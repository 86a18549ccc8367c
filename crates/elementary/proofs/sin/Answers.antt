-- `elementary::sin` meets its contract. Assumes nothing.
use Rattle.std.proofs.Common.{◌≡◌, rules}
use Rattle.casts.specs.Arithmetic.{◌⊗◌, one}
use Rattle.elementary.specs.Elementary.{SIN, sin_step, down}
use Rattle.elementary.proofs.sin.Goals as goal

pub returns : goal.returns
unfolding SIN
returns c =
    let z = c.turned-r.result ⊗ c.turned-r.result in
    let s : c.stepped.result ≡ down (sin_step z) 13 one = c.stepped.ensures (sin_step z) (λ j t r some most p. search rules) in
    rw (s, c.turned-r.ensures)
