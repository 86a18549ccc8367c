use Rattle.eight.proofs.Alike.{of_squares, all_settled}
use Rattle.eight.proofs.denominators.Goals as goal

pub returns-then-t-convergents-eq255 : goal.returns-then-t-convergents-eq255
returns-then-t-convergents-eq255 c =
    let x = c.args.x in
    let n = c.steps-n in
    all_settled n.result n.ensures.0 n.ensures.1 x c.convergents-t.result c.convergents.result c.fits-x.0 (of_squares x _ _ c.convergents-t.ensures) (of_squares x _ _ c.convergents.ensures) c.if-t-convergents-eq255.true

pub returns : goal.returns
returns c = of_squares c.args.x 40 _ c.convergents-2.ensures
