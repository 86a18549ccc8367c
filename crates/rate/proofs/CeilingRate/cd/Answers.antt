-- `CeilingRate::cd` meets its contract, as antt computed the numbers of 44,100 Hz. Assumes nothing.
use mathlib.Core.Path.{sym}
use Rattle.rate.proofs.Ceiling.{ceiling_44100}
use Rattle.rate.proofs.CeilingRate.cd.Goals as goal

pub returns : goal.returns
returns c = sym ceiling_44100
