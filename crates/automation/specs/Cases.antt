-- Marked cases e, f and g, and beside f the same of tied points. antt computes each. Assumes nothing.
use Rattle.std.specs.Prelude.{◌≡◌, ℕ, List, [], ◌∷◌, map, refl, Float}
use Rattle.std.specs.Float.{binary64}
use Rattle.std.specs.Float.Ieee.{of_bits, of_int, add, sub, mul, div, lt, le}
use Rattle.casts.specs.Arithmetic.{◌⊘◌, nought, half, one, whole}
use Rattle.automation.specs.Automation.{block_of, reached, segment, sweep_of, points_of, merged_with, merged, sweep_at, swept}

-- "e. B(31) = 0, B(32) = 32."
pub case_e : (block_of 31 ≡ 0) × (block_of 32 ≡ 32)
unfolding block_of
case_e = (refl, refl)

-- "Points (10, 1), (74, 0)"
abbrev closing : ℕ → Float
closing n = sweep_at (10 ∷ 74 ∷ []) (one ∷ nought ∷ []) n

-- 0.65625 and 0.15625
abbrev first : Float
first = of_bits binary64 0x3fe5_0000_0000_0000

abbrev second : Float
second = of_bits binary64 0x3fc4_0000_0000_0000

-- "f. .. at 9 and 31, 1; at 32 and 63, 0.65625; at 64, 0.15625; at 74, 0."
pub case_f : (closing 9 ≡ one) × (closing 31 ≡ one) × (closing 32 ≡ first) × (closing 63 ≡ first) × (closing 64 ≡ second) × (closing 74 ≡ nought)
unfolding sweep_at sweep_of points_of merged_with merged reached segment block_of of_bits of_int add sub mul div
case_f = (refl, refl, refl, refl, refl, refl)

-- ---- 02's E8, beside f: two points on one sample at the list's start and three at its end, three and two, and the whole list on one sample
abbrev pub sixty_fourths : ℕ → Float
sixty_fourths k = whole k ⊘ whole 64

-- (10, 0.5), (10, 0.75), (74, 1), (74, 0), (74, 0.5)
abbrev pub two_then_three : ℕ → Float
two_then_three n = sweep_at (10 ∷ 10 ∷ 74 ∷ 74 ∷ 74 ∷ []) (half ∷ sixty_fourths 48 ∷ one ∷ nought ∷ half ∷ []) n

-- (10, 1), (10, 0.25), (10, 0.5), (74, 0.75), (74, 1)
abbrev pub three_then_two : ℕ → Float
three_then_two n = sweep_at (10 ∷ 10 ∷ 10 ∷ 74 ∷ 74 ∷ []) (one ∷ sixty_fourths 16 ∷ half ∷ sixty_fourths 48 ∷ one ∷ []) n

-- (10, 0.75), (10, 0.25), (10, 0.5)
abbrev pub all_on_one : ℕ → Float
all_on_one n = sweep_at (10 ∷ 10 ∷ 10 ∷ []) (sixty_fourths 48 ∷ sixty_fourths 16 ∷ half ∷ []) n

abbrev pub positions : List ℕ
positions = 9 ∷ 10 ∷ 31 ∷ 32 ∷ 63 ∷ 64 ∷ 73 ∷ 74 ∷ []

-- at 9, 1; at 10 and 31, the lowest of the first tie; at 32 and 63, and at 64 and 73, on the way from there to the lowest of the second; at 74, that. Of the third list the lowest from 10 on
pub case_ties :
    (map two_then_three positions ≡ one ∷ half ∷ half ∷ sixty_fourths 21 ∷ sixty_fourths 21 ∷ sixty_fourths 5 ∷ sixty_fourths 5 ∷ nought ∷ [])
    × (map three_then_two positions ≡ one ∷ sixty_fourths 16 ∷ sixty_fourths 16 ∷ sixty_fourths 27 ∷ sixty_fourths 27 ∷ sixty_fourths 43 ∷ sixty_fourths 43 ∷ sixty_fourths 48 ∷ [])
    × (map all_on_one positions ≡ one ∷ sixty_fourths 16 ∷ sixty_fourths 16 ∷ sixty_fourths 16 ∷ sixty_fourths 16 ∷ sixty_fourths 16 ∷ sixty_fourths 16 ∷ sixty_fourths 16 ∷ [])
unfolding sweep_at sweep_of points_of merged_with merged reached segment block_of of_bits of_int add sub mul div lt
case_ties = (refl, refl, refl)

-- "g. Own 8000: value 1 gives 8000, 0 gives 800; own 700, value 0: 700."
pub case_g : (swept (whole 8000) one ≡ whole 8000) × (swept (whole 8000) nought ≡ whole 800) × (swept (whole 700) nought ≡ whole 700)
unfolding swept of_bits of_int le
case_g = (refl, refl, refl)
