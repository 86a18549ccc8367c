use mathlib.Core.Path.{sym, ◌∙◌}
use Rattle.goqhari.proofs.Lent.{lent_room}
use Rattle.goqhari.proofs.run.Goals as goal

pub pack-requires : goal.pack-requires
pack-requires c = lent_room _ _ _ _ _ _ (sym c.lent_strip.ensures ∙ c.in_ok-strip.was)
