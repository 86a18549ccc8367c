-- `casts::raised_bits` meets its contract, by the laws of proofs/Floors.antt, one for each range of the exponent's field. Assumes nothing.
use Rattle.std.proofs.Common.{◌≡◌, ℕ, ◌*◌, ◌%◌, ◌^◌, ◌<◌, true, refl, ap, ◌∙◌, mod-eq_of_lt, one-mul, arith}
use lib.Pow.{pow-lt}
use Rattle.casts.proofs.Floors.{raises_zero, raises_tiny, floors_far, raises_mid}
use Rattle.casts.proofs.raised_bits.Goals as goal

pub returns-then-m-eq0 : goal.returns-then-m-eq0
returns-then-m-eq0 c = rw c.if-m-eq0.true raises_zero

pub returns-then-field-lt-ONE_FIELD : goal.returns-then-field-lt-ONE_FIELD
returns-then-field-lt-ONE_FIELD c = raises_tiny c.args.m (omega arith) c.if-field-lt-ONE_FIELD.true

pub returns-then-field-ge-WHOLE_FIELD : goal.returns-then-field-ge-WHOLE_FIELD
returns-then-field-ge-WHOLE_FIELD c = floors_far true c.args.m c.if-field-ge-WHOLE_FIELD.true c.requires

pub returns : goal.returns
returns c = raises_mid c.args.m _ _ c.if-field-lt-ONE_FIELD.false (omega arith) refl (power _ (omega arith))
  where
    power : (k : ℕ) → k < 64 → 1 * 2 ^ k % 18446744073709551616 ≡ 2 ^ k
    power k h = ap (λ (x : ℕ). x % 18446744073709551616) (one-mul (2 ^ k)) ∙ mod-eq_of_lt (pow-lt h)
