use Rattle.std.proofs.Common.{◌∙◌}
use Rattle.delay.proofs.Part.{at_part}
use Rattle.delay.proofs.DelayLine.at.Goals as goal

pub returns : goal.returns
returns c = let a = c.args in rw c.places.ensures at c.at.ensures ∙ at_part a.self.at a.self.ring a.part.now c.requires.line_in_part.0 c.requires.line_in_part.1 a.written a.delay
