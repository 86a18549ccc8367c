-- The numbers at 44,100 Hz are usable by the whole strip, and by its sheet value. Assumes nothing.
use lib.Dec.{lit≤}
use Rattle.rate.specs.Ceiling.{SheetValueUsable}
use Rattle.rate.specs.Rate.{rate_of, RateUsable}
use Rattle.rate.proofs.Tape.{tape_44100, warp_44100}
use Rattle.rate.proofs.Plate.{plate_44100, usable_44100 as plate-usable-44100}
use Rattle.rate.proofs.Ceiling.{ceiling_44100, usable_44100 as ceiling-usable-44100, sheet_value_usable_44100 as ceiling-sheet-value-usable-44100}

pub usable_44100 : RateUsable (rate_of 44100)
unfolding rate_of
usable_44100 = record { tape = tape_44100; plate = plate-usable-44100; ceiling = ceiling-usable-44100; samples = rw (warp_44100, plate_44100, ceiling_44100) (lit≤ tt); counts = rw ceiling_44100 (lit≤ tt) }

pub sheet_value_usable_44100 : SheetValueUsable (rate_of 44100).ceiling
unfolding rate_of
sheet_value_usable_44100 = ceiling-sheet-value-usable-44100
