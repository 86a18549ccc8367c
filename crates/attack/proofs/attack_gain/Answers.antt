use Rattle.std.proofs.Common.{T, sym, ◌∙◌, subst}
use Rattle.attack.proofs.Relates.{tabled_says}
use Rattle.attack.proofs.attack_gain.Goals as goal

pub returns-then-tabled : goal.returns-then-tabled
returns-then-tabled c = c.attack_441.ensures ∙ tabled_says c.args.floor c.args.attack (subst T (sym c.well_formed.0.1) tt) (sym c.tabled.ensures ∙ c.if-tabled.true) c.args.j
