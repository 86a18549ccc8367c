use mathlib.Core.Path.{sym}
use Rattle.rate.proofs.Plate.{input_44100, left_44100, right_44100, plate_44100}
use Rattle.rate.proofs.PlateRate.cd.Goals as goal

pub returns : goal.returns
returns c = rw (c.right_cd.ensures, right_44100) (rw (c.left_cd.ensures, left_44100) (rw (c.cd.ensures, input_44100) (sym plate_44100)))
