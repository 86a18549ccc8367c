use native.Mathlib.Omega.{arith}
use mathlib.Core.Path.{refl, sym, ap, subst⁻¹, ◌∙◌}
use Rattle.blocks.specs.Run.{LaneRuns, BusRuns, tuned_of}
use Rattle.blocks.proofs.Staged.{lane_of_lent, bus_of_lent, block_ended}
use Rattle.blocks.proofs.block.Goals as goal

pub lane_block-lane-requires : goal.lane_block-lane-requires
lane_block-lane-requires c =
    let s = c in
    let g = s.args in
    let lent = lane_of_lent g.rate s.requires.rate_usable g.strip g.store.now g.counts.now s.requires.runs _ _ _ _ refl refl refl refl in
    let p = s.requires in
    rw c.lane_part-lane_part.ensures (record {
      rate_usable = p.rate_usable;
      lane_runs = subst⁻¹ (LaneRuns g.rate) lent p.runs.lane;
      tape_value = p.tape_value ∙ ap (tuned_of g.rate g.strip.position) (sym lent);
      piecewise = p.piecewise;
      sent_len = p.outputs.left;
    })

pub returns : goal.returns
returns c =
    let s = c in
    let g = s.args in
    let k = c.lane_block-lane in
    let b = c.bus_block-bus in
    let lane = c.lane_part-lane_part.ensures in
    let bus = c.bus_part-bus_part.ensures in
    rw (lane, bus)
    (block_ended g.rate s.requires.rate_usable g.strip g.store.now g.counts.now s.requires.runs _ _ _ _ refl refl refl refl g.drums g.dry.now k.new.samples k.new.counts k.result b.result b.new.samples b.new.counts _
    b.new.frames b.new.gains (rw lane at k.ensures.lane_after) (rw lane at k.ensures.sents_after) (rw (lane, bus) at b.ensures.bus_after) (rw (lane, bus) at b.ensures.frames_after) (rw (lane, bus) at b.ensures.gains_after))
