-- `rest` meets its contract. Assumes nothing.
use mathlib.Core.Path.{sym, ◌∙◌}
use Rattle.rate.proofs.Rates.{usable_44100}
use Rattle.refusals.proofs.Numbers.{fine}
use Rattle.part.proofs.rest.Goals as goal

pub resting-requires-clause-rate_usable : goal.resting-requires-clause-rate_usable
resting-requires-clause-rate_usable c = rw c.cd.ensures usable_44100

pub resting-requires-clause-sized : goal.resting-requires-clause-sized
resting-requires-clause-sized c = rw c.cd.ensures (fine _ _ (sym c.check_strip.ensures ∙ c.in-Ok.is)).sized
