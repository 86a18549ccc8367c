-- `casts::nearest_short` meets its contract: the sign's bit is taken off the pattern and set in front of the narrowed rest. Assumes nothing.
use Rattle.std.proofs.Common.{ℕ, true, false, sym, ap, ◌∙◌, add-sub_of_le, zero-add}
use lib.Ieee.{binary32, binary64, of_bits}
use Rattle.casts.specs.Cast.{narrowed}
use Rattle.casts.proofs.Split.{signed_no_nan, plain_no_nan}
use Rattle.casts.proofs.nearest_short.Goals as goal

pub float_from_bits-result : goal.float_from_bits-result
float_from_bits-result c = plain_no_nan binary32 c.narrowed_bits.result c.narrowed_bits.ensures.small

pub returns-then-bits-lt-SIGN : goal.returns-then-bits-lt-SIGN
returns-then-bits-lt-SIGN c =
    ap (of_bits binary32) (sym (zero-add c.narrowed_bits.result))
    ∙ c.narrowed_bits.ensures.same false
    ∙ ap (λ (x : ℕ). narrowed (of_bits binary64 x)) (zero-add c.args.bits)

pub float_from_bits-result-else-bits-lt-SIGN : goal.float_from_bits-result-else-bits-lt-SIGN
float_from_bits-result-else-bits-lt-SIGN c = signed_no_nan binary32 true c.narrowed_bits-else-bits-lt-SIGN.result c.narrowed_bits-else-bits-lt-SIGN.ensures.small

pub returns-else-bits-lt-SIGN : goal.returns-else-bits-lt-SIGN
returns-else-bits-lt-SIGN c = c.narrowed_bits-else-bits-lt-SIGN.ensures.same true ∙ ap (λ (x : ℕ). narrowed (of_bits binary64 x)) (add-sub_of_le c.if-bits-lt-SIGN.false)
