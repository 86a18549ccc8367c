-- A strip's numbers at a rate, and what the strip's theorems ask of them.
use Rattle.std.specs.Prelude.{ℕ, ◌+◌, ◌≤◌, List, length, Float}
use Rattle.rate.specs.Tape.{tape_rate, TapeUsable}
use Rattle.rate.specs.Plate.{plate_rate, PlateUsable}
use Rattle.rate.specs.Ceiling.{ceiling_rate, Usable}
use Rattle.rate.specs.Stores.{bus_samples, bus_counts, lane_samples, lane_counts}
use Rattle.rate.specs.declared.Rate.{Rate}

-- "a sample store of 49,152 f64 and a count store of 4,096 u64"
unfoldable pub rate_of : ℕ → Rate
rate_of hz = record { samples = 49152; counts = 4096; tape = tape_rate hz; plate = plate_rate hz; ceiling = ceiling_rate hz }

pub record RateUsable (r : Rate) : Type 0 where
  pub tape : TapeUsable r.tape
  pub plate : PlateUsable r.plate
  pub ceiling : Usable r.ceiling
  -- the bus and the lane have room in the stores
  pub samples : bus_samples r + lane_samples r ≤ r.samples
  pub counts : bus_counts r + lane_counts ≤ r.counts

-- the lent stores are long enough
pub record Sized (r : Rate) (store : List Float) (counts : List ℕ) : Type 0 where
  pub long : r.samples ≤ length store
  pub wide : r.counts ≤ length counts
