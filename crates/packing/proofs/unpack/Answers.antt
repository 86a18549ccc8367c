use mathlib.Core.Path.{sym, ◌∙◌}
use Rattle.packing.specs.Packing.{unpacked}
use Rattle.packing.proofs.Read.{room}
use Rattle.packing.proofs.unpack.Goals as goal

pub returns-then-not-roomy : goal.returns-then-not-roomy
unfolding unpacked
returns-then-not-roomy c = rw (sym c.roomy.ensures ∙ c.if-not-roomy.true)

pub unpackable-requires : goal.unpackable-requires
unpackable-requires c = room _ _ (sym c.roomy.ensures ∙ c.if-not-roomy.false)

pub returns-then-not-unpackable : goal.returns-then-not-unpackable
unfolding unpacked
returns-then-not-unpackable c = rw (sym c.roomy.ensures ∙ c.if-not-roomy.false, sym c.unpackable.ensures ∙ c.if-not-unpackable.true)

pub strip_from-requires : goal.strip_from-requires
strip_from-requires c = room _ _ (sym c.roomy.ensures ∙ c.if-not-roomy.false)

pub returns : goal.returns
unfolding unpacked
returns c = rw (sym c.roomy.ensures ∙ c.if-not-roomy.false, sym c.unpackable.ensures ∙ c.if-not-unpackable.false, c.strip_from.ensures)
