use Rattle.oscillators.specs.Oscillators.{swell_of}
use Rattle.oscillators.proofs.swell_eight.Goals.{in-None, in-Some}
use Rattle.oscillators.proofs.swell_eight.Goals as goal

pub returns : goal.returns
unfolding swell_of
returns c =
    elim c.match-pad.branch [
      | in-None w ↦ rw (w.result-is, w.in-None.is)
      | in-Some w ↦ rw (w.result-is, w.swells_by.ensures, w.sin_eight.ensures, w.phases.ensures, w.in-Some.is, w.in-Some.field-0-is)
    ]
