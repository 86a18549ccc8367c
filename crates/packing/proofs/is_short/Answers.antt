use mathlib.Core.Path.{sym, subst}
use lib.Dec.{T}
use Rattle.packing.specs.Packing.{is_short}
use Rattle.packing.proofs.Floats.{short_digits}
use Rattle.packing.proofs.is_short.Goals as goal

pub returns-then-field-lt1151 : goal.returns-then-field-lt1151
returns-then-field-lt1151 c =
    let s = c in
    sym (short_digits s.args.x (subst T (sym s.well_formed.0.1) tt) _ c.bits_of_f64-bits.ensures c.if-bits-eq0.true c.if-field-ge897.true c.if-field-lt1151.true)

pub returns : goal.returns
unfolding is_short
returns c = rw c.bits_of_f64.ensures (rw c.bits_of_f64-bits.ensures (rw c.widen-y.ensures (rw c.narrow.ensures)))
