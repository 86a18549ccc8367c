-- Refusal 4, as far as it concerns the ceiling: "a cursor beyond its list, more than 883 queued needs, a need or the released gain outside 0 to 1 or NaN,
-- a step above 2^40, a gain count that is not the total of its 221 steps". Only the queued needs count, and a frame number may be anything.
use Rattle.std.specs.Prelude.{ℕ, zero, suc, ◌+◌, ◌%◌, ◌≤◌, Bool, true, ◌&&◌, leb, List, length, ◌==◌, nat_le, nat_lt, slice_index, slice_index_or, Float}
use Rattle.std.specs.Float.{nan}
use Rattle.casts.specs.Arithmetic.{nought, one}
use Rattle.ranges.specs.Ranges.{in_range}
use Rattle.rate.specs.declared.CeilingRate.{CeilingRate}
use Rattle.rate.specs.Ceiling.{unit}
use Rattle.rate.specs.Stores.{ceiling_samples, ceiling_counts}
use Rattle.master.specs.Kept.{CeilingIn, places_of}

abbrev pub in_unit : Float → Bool
in_unit x = in_range nought one x

-- t of each below k
unfoldable pub every : (ℕ → Bool) → ℕ → Bool
every t zero = true
every t (suc k) = every t k && t k

-- the len needs queued from head on, in a ring of P places
abbrev pub needs_in : List Float → ℕ → ℕ → ℕ → Bool
needs_in l P head len = every (λ j. in_unit (slice_index_or l ((head + j) % P) nan)) len

-- the k steps from b on, and their sum
abbrev pub steps_in : List ℕ → ℕ → ℕ → Bool
steps_in l b k = every (λ j. leb (slice_index l (b + j)) unit) k

unfoldable pub sum_at : List ℕ → ℕ → ℕ → ℕ
sum_at l b zero = 0
sum_at l b (suc k) = sum_at l b k + slice_index l (b + k)

unfoldable pub well_formed : CeilingRate → CeilingIn → Bool
well_formed r k =
    nat_lt k.ceiling.head (places_of r)
    && (nat_le k.ceiling.len (places_of r)
    && (in_unit k.ceiling.released
    && (needs_in k.samples (places_of r) k.ceiling.head k.ceiling.len
    && (steps_in k.counts (places_of r) (r.ahead + 1)
    && k.ceiling.count == sum_at k.counts (places_of r) (r.ahead + 1)))))

-- the parts of the stores are long enough
pub record Sized (r : CeilingRate) (samples : List Float) (counts : List ℕ) : Type 0 where
  pub room : ceiling_samples r ≤ length samples
  pub rooms : ceiling_counts r ≤ length counts
