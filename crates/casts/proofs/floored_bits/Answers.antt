-- `casts::floored_bits` meets its contract, by the laws of proofs/Floors.antt, one for each range of the exponent's field. Assumes nothing.
use Rattle.std.proofs.Common.{false, refl, arith}
use Rattle.casts.proofs.Floors.{floors_tiny, floors_far, floors_mid}
use Rattle.casts.proofs.floored_bits.Goals as goal

pub returns-then-field-lt-ONE_FIELD : goal.returns-then-field-lt-ONE_FIELD
returns-then-field-lt-ONE_FIELD c = floors_tiny c.args.m c.if-field-lt-ONE_FIELD.true

pub returns-then-field-ge-WHOLE_FIELD : goal.returns-then-field-ge-WHOLE_FIELD
returns-then-field-ge-WHOLE_FIELD c = floors_far false c.args.m c.if-field-ge-WHOLE_FIELD.true c.requires

pub returns : goal.returns
returns c = floors_mid c.args.m _ c.if-field-lt-ONE_FIELD.false (omega arith) refl
