use Rattle.delay.proofs.Part.{push_part}
use Rattle.delay.proofs.DelayLine.push.Goals as goal

pub returns : goal.returns
returns c = let a = c.args in rw c.places.ensures (push_part a.self.at a.self.ring a.part.now c.requires.0 c.requires.1 a.written a.x _ (rw c.places.ensures at c.push.ensures))
