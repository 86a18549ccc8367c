-- `casts::narrow` meets its contract: in the common range by the digits rounded in place, else by `nearest_short`. Assumes nothing.
use Rattle.std.proofs.Common.{sym, ap, ◌∙◌, lit<}
use lib.Ieee.{binary32, binary64}
use lib.Ieee.Bits.{of_bits-to_bits}
use Rattle.casts.specs.Cast.{narrowed}
use Rattle.casts.proofs.Split.{held, is_nan_lem, not_false, reads_nan, reads_number, rest_le}
use Rattle.casts.proofs.narrow.Goals as goal

pub returns-then-is_nan : goal.returns-then-is_nan
unfolding narrowed
returns-then-is_nan c = sym (reads_nan binary32 2143289344 (lit< tt)) ∙ ap narrowed (sym (is_nan_lem c.args.x (sym c.is_nan.ensures.value ∙ c.if-is_nan.true)))

pub nearest_short-requires : goal.nearest_short-requires
nearest_short-requires c = rest_le binary64 c.args.x (held binary64 c.args.x c.well_formed.0.1) (not_false _ (sym c.is_nan.ensures.value ∙ c.if-is_nan.false))

pub float_from_bits-result : goal.float_from_bits-result
float_from_bits-result c = reads_number binary32 c.rounded_bits.result c.rounded_bits.ensures.number

pub returns-then-field-lt-PAST_IN_PLACE : goal.returns-then-field-lt-PAST_IN_PLACE
returns-then-field-lt-PAST_IN_PLACE c = c.rounded_bits.ensures.same ∙ ap narrowed (of_bits-to_bits binary64 c.args.x (held binary64 c.args.x c.well_formed.0.1))

pub returns-else-field-ge-FIRST_IN_PLACE : goal.returns-else-field-ge-FIRST_IN_PLACE
returns-else-field-ge-FIRST_IN_PLACE c = c.nearest_short.ensures ∙ ap narrowed (of_bits-to_bits binary64 c.args.x (held binary64 c.args.x c.well_formed.0.1))
