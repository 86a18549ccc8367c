use mathlib.Core.Path.{sym}
use Rattle.rate.proofs.Plate.{input_44100}
use Rattle.rate.proofs.InputRate.cd.Goals as goal

pub returns : goal.returns
returns c = rw (c.new.ensures, c.new-2.ensures, c.new-3.ensures, c.new-4.ensures, c.new-5.ensures) (sym input_44100)
