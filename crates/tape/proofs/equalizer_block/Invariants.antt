use Rattle.tape.specs.Tape.{equalizer_step}
use Rattle.stage.proofs.Loop.{InPlace}
use Rattle.tape.proofs.equalizer_block.Given as goal

abbrev pub invariant-loop-i : goal.invariant-loop-i
invariant-loop-i l = InPlace (equalizer_step l.setup l.rain) l.n l.initial.equalizer l.initial.block l.equalizer l.block l.i
