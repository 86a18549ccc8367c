use Rattle.std.proofs.Common.{◌≡◌, ◌+◌, ◌-◌, arith}
use Rattle.sidechain.proofs.Gain.{gain_releasing}
use Rattle.sidechain.proofs.sidechain_gains.Goals as goal

pub returns-then-up-rate : goal.returns-then-up-rate
returns-then-up-rate c =
    let a = c.args in
    let q : a.since - a.rate.attack + 1 ≡ a.since + 1 - a.rate.attack = omega arith in
    record {
      at_value = rw (c.releasing.ensures, c.short.ensures) (gain_releasing a.rate a.since (omega arith) (omega arith));
      after_value = rw (c.releasing-then-up-rate.ensures, c.short-then-up-rate.ensures, q) (gain_releasing a.rate (a.since + 1) (omega arith) (omega arith));
    }
