-- `check_strip` meets its contract. Assumes nothing.
use Rattle.rate.proofs.Rates.{usable_44100}
use Rattle.strip.proofs.Refusals.{sized_is}
use mathlib.Core.Path.{sym, ◌∙◌}
use Rattle.refusals.proofs.check_strip.Goals as goal

pub formed-requires-clause-rate_usable : goal.formed-requires-clause-rate_usable
formed-requires-clause-rate_usable c = rw c.cd-rate.ensures usable_44100

pub formed-requires-clause-sized : goal.formed-requires-clause-sized
formed-requires-clause-sized c = sized_is _ _ _ (sym c.long_enough.ensures ∙ c.if-not-long_enough.false)
