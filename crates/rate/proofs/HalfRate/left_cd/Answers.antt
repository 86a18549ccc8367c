use mathlib.Core.Path.{sym}
use Rattle.rate.proofs.Plate.{left_44100}
use Rattle.rate.proofs.HalfRate.left_cd.Goals as goal

pub returns : goal.returns
returns c = rw (c.new.ensures, c.new-2.ensures, c.new-3.ensures, c.new-4.ensures) (sym left_44100)
