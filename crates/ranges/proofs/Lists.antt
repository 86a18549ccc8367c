-- Loops that go on to the end: whether all so far pass, and all of what is left. Assumes nothing.
use Rattle.std.proofs.Common.{◌≡◌, ℕ, ◌+◌, ◌*◌, ◌%◌, ◌<◌, ◌≤◌, Bool, ◌&&◌, ltb, leb, List, [], ◌∷◌, length, get_or, drop, add-one, sym, ◌∙◌, arith, drop_of_length-le, drop-cons, le-ltb, lt-ltb, le-leb}
use Rattle.std.proofs.Math.Bool.{and_assoc}
use Rattle.std.specs.List.{fold}
use mathlib.Core.Bool.{and-true, and-false}
use native.Mathlib.Decide.{dec_lt}
use lib.Bits.{bit_or, or_lt, or_add_and, and_le_l, and_le_r}
use lib.Ieee.{Float}
use borrow.Author.Tests.{lt-leb}
use Rattle.ranges.specs.Ranges.{last_position, in_range, all_in_range, rising_from}

-- ---- each in a range
pub range_folded : (lo hi : Float) (all : Bool) (l : List Float) → fold (λ b x. b && in_range lo hi x) all l ≡ (all && all_in_range lo hi l)
unfolding all_in_range
range_folded lo hi all [] = sym (and-true all)
range_folded lo hi all (x ∷ xs) = range_folded lo hi (all && in_range lo hi x) xs ∙ and_assoc all (in_range lo hi x) (all_in_range lo hi xs)

-- ---- a list that never falls: where none falls from b on, b is at most 2^32 where what follows it is

between : (b k m : ℕ) (rest : Bool) → (leb b m && (leb b k && (leb k m && rest))) ≡ (leb b k && (leb k m && rest))
between b k m rest = elim (dec_lt k b) [
  | yes f ↦ rw (lt-leb b k f) (and-false (leb b m))
  | no f ↦ elim (dec_lt m k) [ yes g ↦ rw (lt-leb k m g, and-false (leb b k)) (and-false (leb b m)) | no g ↦ rw (le-leb b m (omega arith)) ]
]

-- `REACH`: above any position, a power of two
abbrev pub reach : ℕ
reach = 2 * last_position

-- two numbers joined digit by digit lie below a power of two just where both do
joined : (a b : ℕ) → ltb (bit_or a b) reach ≡ (ltb a reach && ltb b reach)
joined a b =
    let sum = or_add_and a b in
    let left = and_le_l a b in
    let right = and_le_r a b in
    elim (dec_lt a reach) [
      | yes f ↦ elim (dec_lt b reach) [
        | yes g ↦ rw (lt-ltb (bit_or a b) reach (or_lt 33 a b f g), lt-ltb a reach f, lt-ltb b reach g)
        | no g ↦ rw (le-ltb (bit_or a b) reach (omega arith), lt-ltb a reach f, le-ltb b reach (omega arith))
      ]
      | no f ↦ rw (le-ltb (bit_or a b) reach (omega arith), le-ltb a reach (omega arith))
    ]

pub part_below : (n k d : ℕ) → bit_or n (bit_or k d) < reach → k < reach
part_below n k d h =
    let outer = or_add_and n (bit_or k d) in
    let inner = or_add_and k d in
    omega (arith, and_le_l n (bit_or k d), and_le_r k d)

-- d is k - b, wrapped
apart : (b k n d : ℕ) (rest : Bool) → (d + b) % 18446744073709551616 ≡ k → d < 18446744073709551616 → (n < reach → b < reach)
    → (ltb (bit_or n (bit_or k d)) reach && (leb k last_position && rest)) ≡ (ltb n reach && (leb b k && (leb k last_position && rest)))
apart b k n d rest e fits h =
    rw (joined n (bit_or k d), joined k d)
    (elim (dec_lt last_position k) [
      | yes f ↦ rw (lt-leb k last_position f, and-false (leb b k), and-false (ltb n reach)) (and-false (ltb n reach && (ltb k reach && ltb d reach)))
      | no f ↦ elim (dec_lt n reach) [
        | no g ↦ rw (le-ltb n reach (omega arith))
        | yes g ↦
            let low : b < reach = h g in
            elim (dec_lt k b) [
              | yes j ↦ rw (lt-ltb n reach g, lt-ltb k reach (omega arith), le-ltb d reach (omega arith), lt-leb b k j)
              | no j ↦ rw (lt-ltb n reach g, lt-ltb k reach (omega arith), lt-ltb d reach (omega arith), le-leb b k (omega arith))
            ]
      ]
    ])

module _ (l : List ℕ) (b i n : ℕ) where
  pub rising_more : (d : ℕ) → i < length l → (d + b) % 18446744073709551616 ≡ get_or l i 0 → d < 18446744073709551616 → (n < reach → b < reach)
      → (ltb (bit_or n (bit_or (get_or l i 0) d)) reach && (leb (get_or l i 0) last_position && rising_from (get_or l i 0) (drop (i + 1) l)))
      ≡ (ltb n reach && (leb b last_position && rising_from b (drop i l)))
  unfolding rising_from
  rising_more d h e fits low = rw (apart b (get_or l i 0) n d _ e fits low, drop-cons l i 0 h, add-one i, between b (get_or l i 0) last_position)

  pub rising_done : length l ≤ i → (ltb n reach && leb b last_position) ≡ (ltb n reach && (leb b last_position && rising_from b (drop i l)))
  unfolding rising_from
  rising_done h = rw (drop_of_length-le l h, and-true (leb b last_position))
