-- `lay_counts` meets its contract. Assumes nothing.
use mathlib.Core.Path.{ap, ◌∙◌}
use mathlib.Core.List.{◌++◌}
use lib.ListN.{drop}
use Rattle.stage.specs.Stage.{over}
use Rattle.duck.specs.Cursors.{DuckIn, duck_counts}
use Rattle.opening.proofs.Parts.{laid_behind}
use borrow.Author.Rules.{rules}
use Rattle.opening.proofs.lay_counts.Goals as goal

pub returns : goal.returns
returns c =
    let s = c.args in
    let z = c.new in
    laid_behind duck_counts s.counts.now z.new.counts (search rules) s.positions.now _ c.lay.ensures
    ∙ ap (λ (d : DuckIn). d.part ++ over s.positions.now (drop duck_counts s.counts.now)) z.ensures
