-- `open_bus` meets its contract. Assumes nothing.
use native.Mathlib.Nat.{sub-zero}
use native.Mathlib.Omega.{arith}
use mathlib.Core.Path.{◌≡◌, ap, ◌∙◌}
use lib.ListN.{length, replicate, length-replicate}
use lib.Seq.{length-take-le}
use Rattle.casts.specs.Arithmetic.{nought}
use Rattle.plate.specs.Plate.{plate_on, fresh_on}
use Rattle.strip.specs.Kept.{bus_of, opened_bus}
use Rattle.stage.proofs.Parts.{behind_lent, behind_put}
use Rattle.opening.proofs.open_bus.Goals as goal

pub returns : goal.returns
unfolding opened_bus
returns c =
    let s = c in
    let l = s.args.samples.now in
    let p = c.plate_samples-p in
    let z = c.fill.new.self in
    let e : z ≡ replicate p.result nought = c.fill.ensures.after (λ y h. h) ∙ rw (length-take-le p.result l (omega (arith, s.requires.samples_len, p.ensures))) in
    let n : length z ≡ p.result = ap length e ∙ length-replicate p.result nought in
    let put = rw sub-zero at (behind_put p.result l z n c.fresh-ceiling.new.samples) in
    let lent = rw sub-zero at (behind_lent p.result l z n) in
    rw (put, c.new-plate.ensures) (ap (bus_of (plate_on (fresh_on s.args.rate.plate) z)) c.fresh-ceiling.ensures ∙ rw (lent, e, p.ensures))
