-- What `ln` asks of a float's fields. Assumes nothing.
use Rattle.std.proofs.Common.{◌≡◌, ℕ, suc, ◌+◌, ◌-◌, ◌/◌, ◌%◌, ◌<◌, Bool, true, false, cond, not, T, ltb, pos, negsuc, ◌-ℤ◌, arith, w64, SFits}
use lib.Ieee.{binary64, nan_bits}

-- digits under the exponent's field 1023 are no NaN's
pub digits_no_nan : (b : ℕ) → T (not (nan_bits binary64 (4607182418800017408 + b % 4503599627370496)))
unfolding nan_bits
digits_no_nan b =
    let e : (4607182418800017408 + b % 4503599627370496) % 9223372036854775808 / 4503599627370496 ≡ 1023 = omega arith in
    rw e tt

pub near : (f : ℕ) → f < 4096 → SFits w64 (pos f -ℤ pos 1023)
near f h = go (ltb f 1023)
  where
    go : (b : Bool) → SFits w64 (cond b (negsuc (1023 - suc f)) (pos (f - 1023)))
    go true = record { sfits = omega arith }
    go false = record { sfits = omega arith }
