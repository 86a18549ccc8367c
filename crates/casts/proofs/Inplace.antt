-- An f64's pattern with the digits below an f32's rounded away in place, where the nearest f32 is a normal one below 2 ^ 127, and its field and sign moved to an f32's places. Assumes nothing.
use Rattle.std.proofs.Common.{◌≡◌, ℕ, ◌+◌, ◌-◌, ◌*◌, ◌/◌, ◌%◌, ◌^◌, ◌<◌, ◌≤◌, Bool, true, false, not, T, ltb, sym, ap, ◌∙◌, subst, add-sub_of_le, zero-add, arith, ltb→lt, nltb→le}
use lib.Ieee.{binary32, binary64, of_bits}
use lib.Ieee.Nearest.{closest}
use Rattle.casts.specs.Cast.{narrowed, signed, Narrows, Rounds}
use Rattle.casts.proofs.Closest.{closest_even}
use Rattle.casts.proofs.Narrowing.{narrows_mid}

-- what the code computes
abbrev pub placed : ℕ → ℕ
placed b = (b + 268435455 + b / 536870912 % 2) / 536870912 - 7516192768 - b / 9223372036854775808 * 15032385536

-- one more where the digits rounded away are above the middle, or at it below an odd digit
carry : ℕ → ℕ
carry b = (b % 536870912 + 268435455 + b / 536870912 % 2) / 536870912

carry_le : (b : ℕ) → carry b ≤ 1
unfolding carry
carry_le b = omega arith

kept : (b : ℕ) → (b + 268435455 + b / 536870912 % 2) / 536870912 ≡ b / 536870912 + carry b
unfolding carry
kept b = omega arith

same_carry : (a b : ℕ) → a % 536870912 ≡ b % 536870912 → a / 536870912 % 2 ≡ b / 536870912 % 2 → carry a ≡ carry b
unfolding carry
same_carry a b e f = ap (λ (r : ℕ). (r + 268435455 + a / 536870912 % 2) / 536870912) e ∙ ap (λ (d : ℕ). (b % 536870912 + 268435455 + d) / 536870912) f

-- the f32 pattern
abbrev short : ℕ → ℕ
short m = (m / 4503599627370496 - 897) * 8388608 + closest (4503599627370496 + m % 4503599627370496) (2 ^ 29)

-- the differences are not below 0, and what is left fits an f32's pattern
pub enough : (b : ℕ) → b < 18446744073709551616 → 897 ≤ b / 4503599627370496 % 2048 → b / 9223372036854775808 * 15032385536 ≤ (b + 268435455 + b / 536870912 % 2) / 536870912 - 7516192768
enough b u lo = subst (λ (t : ℕ). b / 9223372036854775808 * 15032385536 ≤ t - 7516192768) (sym (kept b)) (least b (carry b) u lo)
  where
    least : (b k : ℕ) → b < 18446744073709551616 → 897 ≤ b / 4503599627370496 % 2048 → b / 9223372036854775808 * 15032385536 ≤ b / 536870912 + k - 7516192768
    least b k u lo = omega arith

pub under : (b : ℕ) → b < 18446744073709551616 → b / 4503599627370496 % 2048 < 1150 → placed b < 4294967296
under b u hi = subst (λ (t : ℕ). t - 7516192768 - b / 9223372036854775808 * 15032385536 < 4294967296) (sym (kept b)) (most b (carry b) (carry_le b) u hi)
  where
    most : (b k : ℕ) → k ≤ 1 → b < 18446744073709551616 → b / 4503599627370496 % 2048 < 1150 → b / 536870912 + k - 7516192768 - b / 9223372036854775808 * 15032385536 < 4294967296
    most b k l u hi = omega arith

module _ (m : ℕ) (lo : 897 ≤ m / 4503599627370496) (hi : m / 4503599627370496 < 1150) where
  short_is : short m ≡ m / 536870912 + carry m - 7516192768
  short_is =
      ap (λ (q : ℕ). (m / 4503599627370496 - 897) * 8388608 + q)
      (closest_even (4503599627370496 + m % 4503599627370496) ∙ kept (4503599627370496 + m % 4503599627370496) ∙ ap (λ (q : ℕ). (4503599627370496 + m % 4503599627370496) / 536870912 + q) (same_carry (4503599627370496 + m % 4503599627370496) m (same_rest m) (same_digit m)))
      ∙ joined m (carry m) lo
    where
      same_digit : (m : ℕ) → (4503599627370496 + m % 4503599627370496) / 536870912 % 2 ≡ m / 536870912 % 2
      same_digit m = omega arith

      same_rest : (m : ℕ) → (4503599627370496 + m % 4503599627370496) % 536870912 ≡ m % 536870912
      same_rest m = omega arith

      joined : (m k : ℕ) → 897 ≤ m / 4503599627370496 → (m / 4503599627370496 - 897) * 8388608 + ((4503599627370496 + m % 4503599627370496) / 536870912 + k) ≡ m / 536870912 + k - 7516192768
      joined m k lo = omega arith

  finite : short m < 2139095040
  finite = subst (λ (q : ℕ). q < 2139095040) (sym short_is) (most m (carry m) (carry_le m) hi)
    where
      most : (m k : ℕ) → k ≤ 1 → m / 4503599627370496 < 1150 → m / 536870912 + k - 7516192768 < 2139095040
      most m k l hi = omega arith

  narrows : Narrows m (short m)
  narrows = narrows_mid m lo (omega (arith, hi))

from_signed : (s : Bool) (m b r : ℕ) → 897 ≤ m / 4503599627370496 → m / 4503599627370496 < 1150 → signed binary64 s m ≡ b → signed binary32 s (short m) ≡ r → r % 2147483648 ≤ 2139095040 → Rounds b r
from_signed s m b r lo hi e f k =
    record { number = k; same = ap (of_bits binary32) (sym f) ∙ (narrows m lo hi).same s ∙ ap (λ (x : ℕ). narrowed (of_bits binary64 x)) e }

pub in_place : (b : ℕ) → b < 18446744073709551616 → 897 ≤ b / 4503599627370496 % 2048 → b / 4503599627370496 % 2048 < 1150 → Rounds b (placed b)
in_place b u lo hi = go (ltb b 9223372036854775808) (ltb→lt b 9223372036854775808) (nltb→le b 9223372036854775808)
  where
    plain_lo : (b : ℕ) → b < 9223372036854775808 → 897 ≤ b / 4503599627370496 % 2048 → 897 ≤ b / 4503599627370496
    plain_lo b h lo = omega arith

    plain_hi : (b : ℕ) → b < 9223372036854775808 → b / 4503599627370496 % 2048 < 1150 → b / 4503599627370496 < 1150
    plain_hi b h hi = omega arith

    minus_lo : (b : ℕ) → b < 18446744073709551616 → 9223372036854775808 ≤ b → 897 ≤ b / 4503599627370496 % 2048 → 897 ≤ (b - 9223372036854775808) / 4503599627370496
    minus_lo b u h lo = omega arith

    minus_hi : (b : ℕ) → b < 18446744073709551616 → 9223372036854775808 ≤ b → b / 4503599627370496 % 2048 < 1150 → (b - 9223372036854775808) / 4503599627370496 < 1150
    minus_hi b u h hi = omega arith

    plain_place : (b : ℕ) → b < 9223372036854775808 → 897 ≤ b / 4503599627370496 → b / 4503599627370496 < 1150 → short b ≡ placed b
    plain_place b h lo hi = short_is b lo hi ∙ unsigned b (carry b) h ∙ ap (λ (t : ℕ). t - 7516192768 - b / 9223372036854775808 * 15032385536) (sym (kept b))
      where
        unsigned : (b k : ℕ) → b < 9223372036854775808 → b / 536870912 + k - 7516192768 ≡ b / 536870912 + k - 7516192768 - b / 9223372036854775808 * 15032385536
        unsigned b k h = omega arith

    minus_place : (b : ℕ) → b < 18446744073709551616 → 9223372036854775808 ≤ b → 897 ≤ (b - 9223372036854775808) / 4503599627370496 → (b - 9223372036854775808) / 4503599627370496 < 1150 → 2147483648 + short (b - 9223372036854775808) ≡ placed b
    minus_place b u h lo hi =
        ap (λ (t : ℕ). 2147483648 + t) (short_is (b - 9223372036854775808) lo hi)
        ∙ ap (λ (k : ℕ). 2147483648 + ((b - 9223372036854775808) / 536870912 + k - 7516192768)) (same_carry (b - 9223372036854775808) b (same_rest b h) (same_digit b h))
        ∙ moved b (carry b) u h lo
        ∙ ap (λ (t : ℕ). t - 7516192768 - b / 9223372036854775808 * 15032385536) (sym (kept b))
      where
        same_digit : (b : ℕ) → 9223372036854775808 ≤ b → (b - 9223372036854775808) / 536870912 % 2 ≡ b / 536870912 % 2
        same_digit b h = omega arith

        same_rest : (b : ℕ) → 9223372036854775808 ≤ b → (b - 9223372036854775808) % 536870912 ≡ b % 536870912
        same_rest b h = omega arith

        moved : (b k : ℕ) → b < 18446744073709551616 → 9223372036854775808 ≤ b → 897 ≤ (b - 9223372036854775808) / 4503599627370496
            → 2147483648 + ((b - 9223372036854775808) / 536870912 + k - 7516192768) ≡ b / 536870912 + k - 7516192768 - b / 9223372036854775808 * 15032385536
        moved b k u h lo = omega arith

    plain_number : (r q : ℕ) → r ≡ q → r < 2139095040 → q % 2147483648 ≤ 2139095040
    plain_number r q e h = omega arith

    minus_number : (r q : ℕ) → 2147483648 + r ≡ q → r < 2139095040 → q % 2147483648 ≤ 2139095040
    minus_number r q e h = omega arith

    go : (c : Bool) → (T c → b < 9223372036854775808) → (T (not c) → 9223372036854775808 ≤ b) → Rounds b (placed b)
    go true h k =
        let l = plain_lo b (h tt) lo in
        let t = plain_hi b (h tt) hi in
        let e = plain_place b (h tt) l t in
        from_signed false b b (placed b) l t (zero-add b) (zero-add (short b) ∙ e) (plain_number (short b) (placed b) e (finite b l t))
    go false h k =
        let m = b - 9223372036854775808 in
        let l = minus_lo b u (k tt) lo in
        let t = minus_hi b u (k tt) hi in
        let e = minus_place b u (k tt) l t in
        from_signed true m b (placed b) l t (add-sub_of_le (k tt)) e (minus_number (short m) (placed b) e (finite m l t))
