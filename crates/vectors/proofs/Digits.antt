-- What the number of a field's digits is below.
use Rattle.std.proofs.Common.{◌≡◌, ◌<◌, ◌≤◌, ◌^◌, ◌*◌, ◌+◌, ℕ, suc, arith}
use Rattle.std.proofs.Math.Nat.{pow-suc, pow-le-pow_right}

-- with a digit more it fits a word
pub fits : (i v d : ℕ) → i < 16 → v < 16 ^ i → d < 16 → v * 16 + d < 2 ^ 64
fits i v d h below digit = let most : 16 ^ i ≤ 1152921504606846976 = pow-le-pow_right {n = 16} (omega arith) {i = i} {j = 15} (omega arith) in omega arith

pub more : (i v d : ℕ) → v < 16 ^ i → d < 16 → v * 16 + d < 16 ^ suc i
more i v d below digit = let next : 16 ^ suc i ≡ 16 ^ i * 16 = pow-suc 16 i in omega arith
