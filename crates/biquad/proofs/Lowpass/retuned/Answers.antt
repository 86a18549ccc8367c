use Rattle.biquad.specs.Cookbook.{lowpass_retuned, lowpass_at}
use Rattle.biquad.proofs.Laws.{q_first, q_second}
use Rattle.biquad.proofs.Lowpass.retuned.Goals as goal

-- `biquad::Lowpass::retuned` meets its contract. Assumes nothing.
pub returns : goal.returns
unfolding lowpass_retuned lowpass_at
returns c = rw (← q_first, ← q_second, c.retuned-second.ensures, c.cookbook_lowpass-2.ensures, c.retuned-first.ensures, c.cookbook_lowpass.ensures, c.cos-cos.ensures, c.sin-sin.ensures, c.angle-w0.ensures)
