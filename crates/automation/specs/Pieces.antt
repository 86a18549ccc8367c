-- How many samples have the tuning of the first: to the ramp's end and the next point, and to the block's end only while the ramp or the sweep is on its way. Definitions only.
use Rattle.std.specs.Prelude.{◌≡◌, ℕ, ◌-◌, ◌%◌, ◌≤◌, min, cond, List, length, ◌==◌, nat_le, slice_index, Float}
use Rattle.ramp.specs.declared.Ramp.{Ramp}
use Rattle.ramp.specs.Ramp.{ramp_end}
use Rattle.ranges.specs.Ranges.{last_position}
use Rattle.automation.specs.declared.Tone.{Tone}
use Rattle.automation.specs.declared.Piece.{Piece}
use Rattle.automation.specs.Automation.{reached, tuning_at}

-- i is the number of points reached at n, which callers hand down
pub record Reached (ps : List ℕ) (n i : ℕ) : Type 0 where
  pub is : i ≡ reached ps n
  pub most : i ≤ length ps

-- an ended ramp lets the daylight be to the last position; one on its way, to its end and no further than the block's
unfoldable pub ramp_span : Ramp → ℕ → ℕ
ramp_span r n = cond (nat_le (ramp_end r) n) last_position (min (ramp_end r - n) (32 - n % 32))

-- before any point the sweep is flat up to the first, after all it stays; between two, to the next and no further than the block's end
unfoldable pub sweep_span : List ℕ → ℕ → ℕ
sweep_span ps n =
    let i = reached ps n in
    cond (i == length ps) last_position (cond (i == 0) (slice_index ps i - n) (min (slice_index ps i - n) (32 - n % 32)))

unfoldable pub span : Ramp → List ℕ → ℕ → ℕ
span r ps n = min (ramp_span r n) (sweep_span ps n)

unfoldable pub piece_at : Tone → Ramp → List ℕ → List Float → ℕ → Piece
piece_at tone daylight ps xs n = record { tuning = tuning_at tone daylight ps xs n; len = span daylight ps n }
