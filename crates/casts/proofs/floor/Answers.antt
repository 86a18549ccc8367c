-- `casts::floor` meets its contract: the sign's digit is taken off the pattern and set in front of the rest, rounded to a whole number. Assumes nothing.
use Rattle.std.proofs.Common.{◌≡◌, Float, Bool, true, false, not, T, sym, ap, ◌∙◌, zero-add}
use lib.Ieee.{binary64, of_bits, is_nan}
use Rattle.casts.specs.Cast.{floored}
use Rattle.casts.proofs.Split.{held, not_false, plain_le, plain_is, minus_le, minus_is, signed_no_nan, plain_no_nan}
use Rattle.casts.proofs.Floors.{nan_stays}
use Rattle.casts.proofs.floor.Goals as goal

number : (x : Float) {b : Bool} → b ≡ is_nan x → b ≡ false → T (not (is_nan x))
number x e f = not_false (is_nan x) (sym e ∙ f)

pub returns-then-is_nan : goal.returns-then-is_nan
returns-then-is_nan c = nan_stays c.args.x (sym c.is_nan.ensures.value ∙ c.if-is_nan.true)

pub floored_bits-requires : goal.floored_bits-requires
floored_bits-requires c = plain_le binary64 c.args.x (held binary64 c.args.x c.well_formed.0.1) (number c.args.x c.is_nan.ensures.value c.if-is_nan.false) c.if-bits-lt-SIGN.true

pub float_from_bits-result : goal.float_from_bits-result
float_from_bits-result c = plain_no_nan binary64 c.floored_bits.result c.floored_bits.ensures.small

pub returns-then-bits-lt-SIGN : goal.returns-then-bits-lt-SIGN
returns-then-bits-lt-SIGN c =
    let x = c.args.x in
    ap (of_bits binary64) (sym (zero-add c.floored_bits.result)) ∙ c.floored_bits.ensures.same ∙ ap floored (plain_is binary64 x (held binary64 x c.well_formed.0.1))

pub raised_bits-requires : goal.raised_bits-requires
raised_bits-requires c = minus_le binary64 c.args.x (held binary64 c.args.x c.well_formed.0.1) (number c.args.x c.is_nan.ensures.value c.if-is_nan.false) c.if-bits-lt-SIGN.false

pub float_from_bits-result-else-bits-lt-SIGN : goal.float_from_bits-result-else-bits-lt-SIGN
float_from_bits-result-else-bits-lt-SIGN c = signed_no_nan binary64 true c.raised_bits.result c.raised_bits.ensures.small

pub returns-else-bits-lt-SIGN : goal.returns-else-bits-lt-SIGN
returns-else-bits-lt-SIGN c =
    let x = c.args.x in
    c.raised_bits.ensures.same ∙ ap floored (minus_is binary64 x (held binary64 x c.well_formed.0.1) c.if-bits-lt-SIGN.false)
