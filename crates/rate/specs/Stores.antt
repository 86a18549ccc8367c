-- How long each part of the two stores is. The bus comes first, then the lane; a second lane could follow the first.
--     sample store: the bus (the plate's lines, then the ceiling's places), the lane (the warp's line, then the sweep's values)
--     count store:  the bus (the ceiling's places), the lane (the duck's kicks and marks, then the sweep's positions)
use Rattle.std.specs.Prelude.{ℕ, ◌+◌, ◌*◌}
use Rattle.ranges.specs.Ranges.{most_points}
use Rattle.duck.specs.Cursors.{duck_counts}
use Rattle.rate.specs.declared.TapeRate.{TapeRate}
use Rattle.rate.specs.declared.PlateRate.{PlateRate}
use Rattle.rate.specs.declared.CeilingRate.{CeilingRate}
use Rattle.rate.specs.declared.Rate.{Rate}
use Rattle.rate.specs.declared.places.Part.{Part}

-- ---- the bus

abbrev pub plate_samples : PlateRate → ℕ
plate_samples r = r.input.places + (r.left.places + r.right.places)

-- the queue's needs and the late frames
abbrev pub ceiling_samples : CeilingRate → ℕ
ceiling_samples r = r.window + 1 + 2 * r.ahead

abbrev pub bus_samples : Rate → ℕ
bus_samples r = plate_samples r.plate + ceiling_samples r.ceiling

-- the queue's frame numbers and the steps
abbrev pub ceiling_counts : CeilingRate → ℕ
ceiling_counts r = r.window + 1 + (r.ahead + 1)

abbrev pub bus_counts : Rate → ℕ
bus_counts r = ceiling_counts r.ceiling

-- ---- the lane

abbrev pub warp_samples : TapeRate → ℕ
warp_samples r = r.warp.ring

abbrev pub lane_samples : Rate → ℕ
lane_samples r = warp_samples r.tape + most_points

abbrev pub lane_counts : ℕ
lane_counts = duck_counts + most_points

-- ---- where they lie, from the first place to the one behind the last

abbrev pub bus_part : Rate → Part
bus_part r = record { samples = record { start = 0; end = bus_samples r }; counts = record { start = 0; end = bus_counts r } }

abbrev pub lane_part : Rate → Part
lane_part r = record { samples = record { start = bus_samples r; end = bus_samples r + lane_samples r }; counts = record { start = bus_counts r; end = bus_counts r + lane_counts } }
