-- `lists_formed` meets its contract. Assumes nothing.
use mathlib.Core.Path.{sym, ◌∙◌}
use native.Mathlib.Nat.{add-sub_cancel_left}
use borrow.Author.Tests.{le-leb}
use Rattle.refusals.proofs.lists_formed.Goals as goal

pub returns-then-ok_points : goal.returns-then-ok_points
returns-then-ok_points c = rw (le-leb _ _ c.if-points-gt-MOST_POINTS.false, sym (simp (add-sub_cancel_left, c.warp_samples-w.ensures) at c.ok_points.ensures) ∙ c.if-ok_points.true) c.formed.ensures

pub returns-else-ok_points : goal.returns-else-ok_points
returns-else-ok_points c = rw (le-leb _ _ c.if-points-gt-MOST_POINTS.false, sym (simp (add-sub_cancel_left, c.warp_samples-w.ensures) at c.ok_points.ensures) ∙ c.if-ok_points.false) c.if-ok_points.false
