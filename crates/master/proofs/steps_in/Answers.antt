-- `master::steps_in` meets its contract. Assumes nothing.
use Rattle.std.proofs.Common.{◌≡◌, ℕ, ◌-◌, ◌/◌, eqb, ap, ◌∙◌, rules}
use Rattle.std.proofs.iter.runs.Made.{chains}
use Rattle.std.specs.List.{sum_by}
use Rattle.master.proofs.Checking.{over_none}
use Rattle.master.proofs.steps_in.Goals as goal

pub returns : goal.returns
returns c =
    let e : c.sum.result ≡ sum_by (λ x. (x - x / 1099511627776) / 1099511627776) c.args.steps.now = search (rules, chains) in
    ap (λ (n : ℕ). eqb n 0) e ∙ over_none c.args.steps.now
