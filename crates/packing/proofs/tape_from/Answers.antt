use Rattle.packing.specs.Packing.{tape_from}
use Rattle.packing.proofs.Read.{behind}
use Rattle.packing.proofs.tape_from.Goals as goal

pub returns : goal.returns
unfolding tape_from
returns c = simp (c.duck_from-duck.ensures, c.equalizer_from-equalizer.ensures, c.lowpass_from-tone.ensures, behind)
