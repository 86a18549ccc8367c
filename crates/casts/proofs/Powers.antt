-- The float whose exponent's field is b, with no digits below the leading one, is 2 ^ (b - 1023). Assumes nothing.
use Rattle.std.proofs.Common.{◌≡◌, ℕ, zero, suc, ◌+◌, ◌-◌, ◌*◌, ◌/◌, ◌%◌, ◌<◌, ◌≤◌, Bool, true, false, cond, not, T, ltb, leb, ℤ, pos, negsuc, ◌+ℤ◌, refl, arith, ltb-false, le-ltb, ne_eqb, le-leb, leb-false, leb-true}
use lib.Signed.{lt_z}
use Rattle.std.specs.Int.{int_max, int_min}
use lib.Count.{count_trailing_zeros}
use borrow.Author.Tests.{lt-leb}
use lib.Ieee.{fin, binary64, of_bits, of_fields, odd, minus, nan_bits}

shift : (x : ℕ) → minus (x + 52) 1074 ≡ minus (suc x) 1023
shift x = go (leb 1022 x) refl
  where
    go : (b : Bool) → leb 1022 x ≡ b → minus (x + 52) 1074 ≡ minus (suc x) 1023
    go true t =
        let h = leb-true 1022 x t in
        let e : x + 52 - 1074 ≡ suc x - 1023 = omega arith in
        rw (le-leb 1074 (x + 52) (omega arith), le-leb 1023 (suc x) (omega arith), e)
    go false t =
        let h = leb-false 1022 x t in
        let e : 1074 - suc (x + 52) ≡ 1023 - suc (suc x) = omega arith in
        rw (lt-leb 1074 (x + 52) (omega arith), lt-leb 1023 (suc x) (omega arith), e)

fields : (b : ℕ) → 0 < b → b < 2047 → of_fields binary64 false b 0 ≡ fin false 1 (minus b 1023)
unfolding of_fields odd count_trailing_zeros
fields zero l h = absurd (omega arith)
fields (suc x) l h = rw (ne_eqb (suc x) 2047 (λ e. omega arith), shift x)

pub power : (b : ℕ) → 0 < b → b < 2047 → of_bits binary64 (b * 4503599627370496) ≡ fin false 1 (minus b 1023)
unfolding of_bits
power b l h =
    let e : b * 4503599627370496 % 9223372036854775808 / 4503599627370496 ≡ b = omega arith in
    let z : b * 4503599627370496 % 4503599627370496 ≡ 0 = omega arith in
    rw (lt-leb 9223372036854775808 (b * 4503599627370496) (omega arith), e, z, fields b l h)

pub no_nan : (b : ℕ) → b < 2047 → T (not (nan_bits binary64 (b * 4503599627370496)))
unfolding nan_bits
no_nan b h =
    let e : b * 4503599627370496 % 9223372036854775808 / 4503599627370496 ≡ b = omega arith in
    rw (e, ne_eqb b 2047 (λ q. omega arith)) tt

-- k, held within -1022 and 1023
abbrev pub held : ℤ → ℤ
held k = cond (lt_z k (negsuc 1021)) (negsuc 1021) (cond (lt_z (pos 1023) k) (pos 1023) k)

-- k, from -1022 to 1023, with 1023 added
pub record Biased (k : ℤ) : Type 0 where
  pub field : ℕ
  pub sum : k +ℤ pos 1023 ≡ pos field
  pub above : 0 < field
  pub under : field < 2047
  pub back : minus field 1023 ≡ k

biased : (k : ℤ) → lt_z k (negsuc 1021) ≡ false → lt_z (pos 1023) k ≡ false → Biased k
biased (pos n) l t =
    let h : n ≤ 1023 = ltb-false 1023 n t in
    let e : n + 1023 - 1023 ≡ n = omega arith in
    record { field = n + 1023; sum = refl; above = omega arith; under = omega arith; back = rw (le-leb 1023 (n + 1023) (omega arith), e) }
biased (negsuc n) t l =
    let h : n ≤ 1021 = ltb-false 1021 n t in
    let e : 1023 - suc (1023 - suc n) ≡ n = omega arith in
    record {
      field = 1023 - suc n;
      sum = rw (le-ltb 1023 (suc n) (omega arith));
      above = omega arith;
      under = omega arith;
      back = rw (lt-leb 1023 (1023 - suc n) (omega arith), e);
    }

-- k, held within -1022 and 1023 as std's clamp does it
pub clamped : (k : ℤ) → int_max (negsuc 1021) (int_min k (pos 1023)) ≡ held k
clamped (pos n) = go (ltb 1023 n)
  where
    go : (b : Bool) → int_max (negsuc 1021) (cond b (pos 1023) (pos n)) ≡ cond b (pos 1023) (pos n)
    go true = refl
    go false = refl
clamped (negsuc n) = refl

pub biased_held : (k : ℤ) → Biased (held k)
biased_held (pos n) = go (ltb 1023 n) refl
  where
    go : (b : Bool) → ltb 1023 n ≡ b → Biased (cond b (pos 1023) (pos n))
    go true e = biased (pos 1023) refl refl
    go false e = biased (pos n) refl e
biased_held (negsuc n) = go (ltb 1021 n) refl
  where
    go : (b : Bool) → ltb 1021 n ≡ b → Biased (cond b (negsuc 1021) (negsuc n))
    go true e = biased (negsuc 1021) refl refl
    go false e = biased (negsuc n) e refl
