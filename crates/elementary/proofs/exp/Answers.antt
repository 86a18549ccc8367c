-- `elementary::exp` meets its contract. Assumes nothing.
use Rattle.std.proofs.Common.{◌≡◌, w64, rules}
use mir.ValLaws.{to_z-of_z}
use Rattle.casts.specs.Arithmetic.{◌⊖◌, ◌⊗◌, one}
use Rattle.casts.specs.Cast.{two_to}
use Rattle.elementary.specs.Elementary.{LN2, EXP, exp_step, down}
use Rattle.elementary.proofs.exp.Goals as goal

pub returns : goal.returns
unfolding EXP
returns c =
    let k = c.floor-k in
    let p = c.signed_part in
    let r = c.args.v ⊖ k.result ⊗ LN2 in
    let e : c.stepped-e.result ≡ down (exp_step r) 20 one = c.stepped-e.ensures (exp_step r) (λ j t r some most p. search rules) in
    let power : c.power_of_two.result ≡ two_to p.result = rw (to_z-of_z w64 p.result (record { sfits = p.type_inv })) at c.power_of_two.ensures in
    rw (e, power, p.ensures, k.ensures)
