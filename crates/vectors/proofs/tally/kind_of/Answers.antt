-- `vectors::tally::kind_of` meets its contract. Assumes nothing.
use Rattle.std.proofs.Common.{◌≢◌, ◌∙◌, sym, ap, true≢false, arith, get_or, below_more}
use Rattle.std.proofs.lemmas.Bool.Decides.{Decides-eqb}
use Rattle.std.proofs.lemmas.List.{get_or_read}
use Rattle.std.proofs.lemmas.Slice.Eq.{slice_eq-Decides}
use Rattle.vectors.specs.Line.{name_of}
use Rattle.vectors.proofs.tally.kind_of.Goals as goal

pub loop-kind-preserved : goal.loop-kind-preserved
loop-kind-preserved g c =
    let kinds = c.args.kinds.now in
    let i = c.loop-kind.kind-index in
    let equal = slice_eq-Decides Decides-eqb _ _ _ c.eq.ensures in
    below_more (λ k. (d : g.row.K.Denot) → g.K.Kind.letters (get_or kinds k d) ≢ name_of c.args.line.now) i c.loop-kind.invariant
    (λ d e.
    let read = get_or_read kinds i c.kind-item.result (omega arith) c.kind-item.is d in
    true≢false (sym (equal.1 (c.as_bytes.ensures.value ∙ c.name.ensures ∙ ap g.K.Kind.letters (sym c.kind-item.is ∙ read) ∙ e ∙ sym c.name-name.ensures)) ∙ c.if-eq.false))

pub returns-clause-unnamed : goal.returns-clause-unnamed
returns-clause-unnamed g c = λ none k d h. c.loop-kind.invariant k (omega arith) d
