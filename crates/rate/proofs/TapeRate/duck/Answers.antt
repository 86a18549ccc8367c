-- `TapeRate::duck` meets its contract. Assumes nothing.
use Rattle.rate.proofs.Tape.{duck_44100}
use Rattle.rate.proofs.TapeRate.duck.Goals as goal

pub returns : goal.returns
returns c = rw duck_44100
