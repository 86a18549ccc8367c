-- `open` meets its contract. Assumes nothing.
use native.Mathlib.Omega.{arith}
use mathlib.Core.Path.{sym, ◌∙◌}
use Rattle.rate.proofs.Rates.{usable_44100}
use Rattle.strip.specs.Kept.{lists_of}
use Rattle.strip.proofs.Refusals.{opens}
use Rattle.part.proofs.open.Goals as goal

pub open_strip-requires-clause-rate_usable : goal.open_strip-requires-clause-rate_usable
open_strip-requires-clause-rate_usable c = rw c.cd-rate.ensures usable_44100

pub open_strip-requires-clause-sized : goal.open_strip-requires-clause-sized
open_strip-requires-clause-sized c = let o = opens c.cd-rate.result c.args.setup (lists_of c.args.positions.now c.args.values.now c.args.kicks.now) c.args.store.now c.args.counts.now (sym c.check_open.ensures ∙ c.in_ok-check_open.was) in o.sized

pub open_strip-requires-clause-positions_len_bound : goal.open_strip-requires-clause-positions_len_bound
open_strip-requires-clause-positions_len_bound c =
    let o = opens c.cd-rate.result c.args.setup (lists_of c.args.positions.now c.args.values.now c.args.kicks.now) c.args.store.now c.args.counts.now (sym c.check_open.ensures ∙ c.in_ok-check_open.was) in
    (o.few, omega (arith, o.few, o.paired), o.kicks)
