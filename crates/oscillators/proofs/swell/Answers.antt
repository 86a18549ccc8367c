use Rattle.oscillators.specs.Oscillators.{swell_of}
use Rattle.oscillators.proofs.swell.Goals as goal

pub returns-in-None : goal.returns-in-None
unfolding swell_of
returns-in-None c = cc

pub returns-in-Some : goal.returns-in-Some
unfolding swell_of
returns-in-Some c = rw (c.swell_by.ensures, c.sin.ensures, c.phase.ensures, c.in-Some.is, c.in-Some.field-0-is)
