-- `stream::flush` meets its contract. Assumes nothing.
use mathlib.Core.Path.{sym, subst}
use native.Mathlib.Omega.{arith}
use mathlib.Core.Bool.{not}
use lib.Dec.{T}
use lib.Ieee.{Float, is_nan, of_bits}
use Rattle.stream.proofs.Floor.{no_nan, flushes, stays}
use Rattle.stream.proofs.flush.Goals as goal

pub float_to_bits-field : goal.float_to_bits-field
unfolding is_nan of_bits
float_to_bits-field c = subst (λ (x : Float). T (not (is_nan x))) (sym c.lesser.ensures) (no_nan _ c.args.v tt)

pub returns-then-field-lt-FLUSH_FIELD : goal.returns-then-field-lt-FLUSH_FIELD
returns-then-field-lt-FLUSH_FIELD c = flushes c.args.v c.lesser.result (subst T (sym c.well_formed.0.1) tt) c.lesser.ensures (omega (arith, c.if-field-lt-FLUSH_FIELD.true))

pub returns-else-field-lt-FLUSH_FIELD : goal.returns-else-field-lt-FLUSH_FIELD
returns-else-field-lt-FLUSH_FIELD c = stays c.args.v c.lesser.result (subst T (sym c.well_formed.0.1) tt) c.lesser.ensures (omega (arith, c.if-field-lt-FLUSH_FIELD.false))
