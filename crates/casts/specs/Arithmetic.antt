-- f64 arithmetic as document 01 writes it: "Every operation is f64, rounded singly, in the order written."
use Rattle.std.specs.Prelude.{ℕ, cond, pos, from_bits, Float}
use Rattle.std.specs.Float.{binary64}
use Rattle.std.specs.Float.Ieee.{add, sub, mul, div, neg, lt, of_int}

infixl 6 ◌⊕◌ ◌⊖◌
infixl 7 ◌⊗◌ ◌⊘◌
abbrev pub ◌⊕◌ : Float → Float → Float
x ⊕ y = add binary64 x y

abbrev pub ◌⊖◌ : Float → Float → Float
x ⊖ y = sub binary64 x y

abbrev pub ◌⊗◌ : Float → Float → Float
x ⊗ y = mul binary64 x y

abbrev pub ◌⊘◌ : Float → Float → Float
x ⊘ y = div binary64 x y

-- a whole number as an f64: `n as f64`
abbrev pub whole : ℕ → Float
whole n = of_int binary64 (pos n)

-- 0, 1/2, 1, 2
abbrev pub nought : Float
nought = from_bits binary64 0

abbrev pub half : Float
half = from_bits binary64 0x3fe0_0000_0000_0000

abbrev pub one : Float
one = from_bits binary64 0x3ff0_0000_0000_0000

abbrev pub two : Float
two = from_bits binary64 0x4000_0000_0000_0000

-- a size, as 01 and 02 speak of it: x, or −x where x is below 0. (That of −0 is left −0: no test tells it from 0.)
unfoldable pub size_of : Float → Float
size_of x = cond (lt x nought) (neg x) x
