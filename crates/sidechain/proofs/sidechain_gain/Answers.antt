use Rattle.std.proofs.Common.{◌∙◌}
use Rattle.sidechain.proofs.Gain.{gain_attacking}
use Rattle.sidechain.proofs.sidechain_gain.Goals as goal

pub returns-then-since-rate : goal.returns-then-since-rate
returns-then-since-rate c = c.attack_gain.ensures ∙ gain_attacking _ _ c.if-since-rate.true
