use mathlib.Core.Path.{sym, ◌∙◌}
use Rattle.packing.proofs.Read.{room}
use Rattle.goqhari.proofs.open.Goals as goal

pub pack-requires : goal.pack-requires
pack-requires c = room _ _ (sym c.roomy.ensures ∙ c.if-not-roomy.false)
