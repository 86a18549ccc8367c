-- `vectors::line::name` meets its contract. Assumes nothing.
use Rattle.std.proofs.Common.{◌≡◌, ◌∙◌, ℕ, Bool, not, ◌==◌, take, refl}
use Rattle.std.proofs.lemmas.List.{take_min}
use Rattle.std.proofs.lemmas.List.Folds.{length-prefix_len}
use Rattle.vectors.proofs.line.name.Goals as goal

pub returns : goal.returns
returns c =
    let line = c.args.line.now in
    let is_letter : ℕ → Bool = λ letter. not (letter == 32) in
    let field : take c.min.result line ≡ take 8 line = rw c.min.ensures (take_min 8 line) in
    rw (c.letters.ensures ∙ length-prefix_len is_letter (take c.min.result line), field) refl
