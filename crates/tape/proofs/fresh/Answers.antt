use lib.Ieee.{of_bits}
use Rattle.biquad.specs.Section.{section_at}
use Rattle.onepole.specs.OnePole.{one_pole_at}
use Rattle.tape.specs.Tape.{fresh_tone, fresh_equalizer}
use Rattle.tape.specs.Kept.{fresh_tape}
use Rattle.tape.proofs.fresh.Goals as goal

pub returns : goal.returns
unfolding fresh_tape fresh_tone fresh_equalizer section_at one_pole_at of_bits
returns c = cc
