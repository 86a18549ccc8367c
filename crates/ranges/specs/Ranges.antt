-- Document 01's ranges.
use Rattle.std.specs.Prelude.{ℕ, Bool, true, ◌&&◌, List, [], ◌∷◌, nat_le, Float}
use Rattle.std.specs.Float.Ieee.{le}

-- "At most 256 sweep points (position, value 0 to 1) and 1,024 kick positions, each list never falling, positions at most 2^32."
abbrev pub most_points : ℕ
most_points = 256

abbrev pub most_kicks : ℕ
most_kicks = 1024

abbrev pub last_position : ℕ
last_position = 4294967296

-- "(ends allowed)"; a NaN is in no range
unfoldable pub in_range : Float → Float → Float → Bool
in_range lo hi x = le lo x && le x hi

-- each of a list
unfoldable pub all_in_range : Float → Float → List Float → Bool
all_in_range lo hi [] = true
all_in_range lo hi (x ∷ xs) = in_range lo hi x && all_in_range lo hi xs

-- "each list never falling, positions at most 2^32": none below b, nor below the one before it
unfoldable pub rising_from : ℕ → List ℕ → Bool
rising_from b [] = true
rising_from b (k ∷ ks) = nat_le b k && (nat_le k last_position && rising_from k ks)
