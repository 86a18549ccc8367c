use native.Mathlib.Omega.{arith}
use mathlib.Core.Path.{refl, sym, ap, ◌∙◌}
use Rattle.stream.specs.declared.Frame.{Frame}
use Rattle.plate.specs.Plate.{plate_on}
use Rattle.blocks.specs.Run.{added}
use Rattle.blocks.proofs.Mixed.{mixed_ran, mixed_side}
use Rattle.blocks.proofs.mix.Goals as goal

pub returns : goal.returns
returns c =
    let s = c.args in
    let e = c.requires.left_len.0 in
    let k = c.block-next.ensures in
    let p = plate_on s.plate s.part.now in record {
      plate_after = k.plate_after ∙ sym (mixed_ran s.rate s.n p s.dry.now s.left.now e);
      left_after = c.add.ensures ∙ ap (added s.dry.now) k.left_after ∙ sym (mixed_side s.rate (λ (f : Frame). f.left) (λ y f. refl) s.n p s.dry.now s.left.now e);
      right_after = c.add-2.ensures ∙ ap (added s.dry.now) k.right_after ∙ sym (mixed_side s.rate (λ (f : Frame). f.right) (λ y f. refl) s.n p s.dry.now s.left.now e);
    }
