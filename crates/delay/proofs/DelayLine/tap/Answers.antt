use Rattle.std.proofs.Common.{◌∙◌}
use Rattle.delay.proofs.Part.{tap_part}
use Rattle.delay.proofs.DelayLine.tap.Goals as goal

pub returns : goal.returns
returns c = let a = c.args in rw c.places.ensures at c.tap.ensures ∙ tap_part a.self.at a.self.ring a.part.now c.requires.line_in_part.0 c.requires.line_in_part.1 a.written a.max_delay a.delay
