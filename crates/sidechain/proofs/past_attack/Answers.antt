use Rattle.std.proofs.Common.{◌≡◌, ◌+◌, ◌-◌, arith}
use Rattle.sidechain.proofs.Gain.{gain_releasing, gain_released}
use Rattle.sidechain.proofs.past_attack.Goals as goal

pub returns-then-up-rate : goal.returns-then-up-rate
returns-then-up-rate c =
    let a = c.args in
    let q : a.rate.attack + a.up - a.rate.attack ≡ a.up = omega arith in
    rw (c.releasing.ensures, c.counted.ensures) (rw q at (gain_releasing a.rate (a.rate.attack + a.up) (omega arith) (omega arith)))

pub returns-else-up-rate : goal.returns-else-up-rate
returns-else-up-rate c = let a = c.args in gain_released a.rate (a.rate.attack + a.up) (omega arith) (omega arith)
