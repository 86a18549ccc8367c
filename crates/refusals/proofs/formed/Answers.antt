-- `formed` meets its contract. Assumes nothing.
use mathlib.Core.Bool.{true≢false}
use mathlib.Core.Path.{sym, ◌∙◌}
use native.Mathlib.Nat.{add-sub_cancel_left, sub-zero}
use Rattle.strip.specs.Kept.{formed}
use borrow.Author.Tests.{le-leb, lt-leb}
use Rattle.refusals.proofs.formed.Goals as goal
use Rattle.refusals.proofs.formed.Goals.{then-strip-le-LAST_POSITION, else-strip-le-LAST_POSITION}

pub returns-then-lane_formed : goal.returns-then-lane_formed
unfolding formed
returns-then-lane_formed c =
    elim c.if-strip-le-LAST_POSITION.branch [
      | then-strip-le-LAST_POSITION w ↦
          rw (
            le-leb _ _ w.if-strip-le-LAST_POSITION.true,
            sym (simp (add-sub_cancel_left, c.lane_part-lane_part.ensures) at w.lane_formed.ensures) ∙ sym w.value-is ∙ c.if-lane_formed.true,
          )
          (simp (sub-zero, c.bus_part-bus_part.ensures) at c.bus_formed.ensures)
      | else-strip-le-LAST_POSITION w ↦ absurd (true≢false (sym c.if-lane_formed.true ∙ w.value-is ∙ lt-leb _ _ w.if-strip-le-LAST_POSITION.false))
    ]

pub returns-else-lane_formed : goal.returns-else-lane_formed
unfolding formed
returns-else-lane_formed c =
    elim c.if-strip-le-LAST_POSITION.branch [
      | then-strip-le-LAST_POSITION w ↦
          rw (
            le-leb _ _ w.if-strip-le-LAST_POSITION.true,
            sym (simp (add-sub_cancel_left, c.lane_part-lane_part.ensures) at w.lane_formed.ensures) ∙ sym w.value-is ∙ c.if-lane_formed.false,
          )
          c.if-lane_formed.false
      | else-strip-le-LAST_POSITION w ↦ rw (lt-leb _ _ w.if-strip-le-LAST_POSITION.false) c.if-lane_formed.false
    ]
