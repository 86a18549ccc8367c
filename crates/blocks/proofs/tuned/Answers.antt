use mathlib.Core.Path.{refl, ap, subst⁻¹, ◌∙◌}
use Rattle.blocks.specs.Run.{LaneRuns, tuned_of}
use Rattle.blocks.proofs.Staged.{lane_of_lent}
use Rattle.blocks.proofs.tuned.Goals as goal

pub lane_tuned-requires : goal.lane_tuned-requires
lane_tuned-requires c =
    let s = c in
    let g = s.args in
    let lent = lane_of_lent g.rate s.requires.rate_usable g.strip g.store.now g.counts.now s.requires.runs _ _ _ _ refl refl refl refl in
    rw c.lane_part-part.ensures (record { lane_runs = subst⁻¹ (LaneRuns g.rate) lent s.requires.runs.lane; n_lt_last_position = s.requires.position_lt_last_position })

pub returns : goal.returns
returns c =
    let s = c in
    let g = s.args in
    let lent = lane_of_lent g.rate s.requires.rate_usable g.strip g.store.now g.counts.now s.requires.runs _ _ _ _ refl refl refl refl in
    (rw c.lane_part-part.ensures at c.lane_tuned.ensures) ∙ ap (tuned_of g.rate g.strip.position) lent
