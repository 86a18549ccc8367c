-- Marked case h: "Sidechain, attack 4, release 4, floor 0.5: since 0, 2, 4, 6, 8 gives 1, 0.75, 0.5, 0.75, 1."
use Rattle.std.specs.Prelude.{◌≡◌, [], ◌∷◌, map, refl, Float}
use Rattle.std.specs.Float.{binary64}
use Rattle.std.specs.Float.Ieee.{of_bits, of_int, add, sub, mul, div}
use Rattle.casts.specs.Arithmetic.{half, one}
use Rattle.sidechain.specs.Sidechain.{sidechain_gain}

abbrev three_quarters : Float
three_quarters = of_bits binary64 0x3fe8_0000_0000_0000

pub case_h : map (sidechain_gain (record { attack = 4; release = 4; floor = half })) (0 ∷ 2 ∷ 4 ∷ 6 ∷ 8 ∷ []) ≡ one ∷ three_quarters ∷ half ∷ three_quarters ∷ one ∷ []
unfolding sidechain_gain of_bits add sub mul div of_int
case_h = refl
