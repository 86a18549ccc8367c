-- `master::counted` meets its contract. Assumes nothing.
use Rattle.std.proofs.Common.{◌^◌, sym, ◌∙◌, arith}
use Rattle.std.proofs.lemmas.Iterator.{YieldsList-from_slice}
use Rattle.std.proofs.lemmas.Iterator.Consumers.{fits_from_yields_list}
use Rattle.master.proofs.Checking.{sum_small}
use Rattle.master.proofs.counted.Goals as goal

pub sum-requires-clause-fits : goal.sum-requires-clause-fits
sum-requires-clause-fits c = fits_from_yields_list c.iter.result (2 ^ 64) (YieldsList-from_slice c.args.steps.now cc) (omega (arith, sum_small c.args.steps.now (sym c.steps_in.ensures ∙ c.if-steps_in.true)))
