-- SQRT7200 is the f64 nearest to the root of 7200: the squares of the middles to its neighbours lie on either side of 7200, over whole numbers. Assumes nothing.
use Rattle.std.proofs.Common.{refl, lit<}
use lib.Ieee.{of_bits}
use Rattle.elementary.specs.Elementary.{NearestRoot, SQRT7200}

pub sqrt7200_nearest : NearestRoot 7200 SQRT7200
unfolding of_bits
sqrt7200_nearest = record { M = 0x15_3694_8017_4810; p = 46; value = (refl, refl); lead = lit< tt; most = lit< tt; above = lit< tt; below = lit< tt }
