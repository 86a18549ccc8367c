use native.Mathlib.Omega.{arith}
use Rattle.strip.specs.Kept.{lane_on, lists_in}
use Rattle.tape.proofs.Lasting.{tuned_duck}
use Rattle.blocks.proofs.Staged.{warp_fits, lane_ended, lane_gave}
use Rattle.blocks.proofs.lane_block.Goals as goal

pub tape_block-tape-requires : goal.tape_block-tape-requires
tape_block-tape-requires c =
    let s = c in
    let g = s.args in
    let k = g.lane in
    let runs = s.requires.lane_runs in
    let l = lists_in g.rate (lane_on k g.samples.now g.counts.now) in record {
      warp_fits = warp_fits g.rate s.requires.rate_usable g.samples.now _ c.warp_samples-warp.ensures runs.long.samples;
      within = rw (s.requires.tape_value, tuned_duck g.rate.tape k.setup.tape.tone k.daylight l.positions l.values g.n k.tape) runs.ducks;
      block_bound = s.requires.piecewise.before;
    }

pub returns : goal.returns
returns c =
    let s = c in
    let g = s.args in
    let t = c.tape_block-tape in
    let p = s.requires in record {
      lane_after = lane_ended g.rate g.lane g.tape g.drums g.n g.samples.now g.counts.now g.dry.now p.lane_runs p.tape_value p.piecewise _ c.warp_samples-warp.ensures t.result
          t.new.ring t.new.counts t.new.block c.send.new.sent t.ensures.tape_after t.ensures.block_after c.send.ensures;
      sents_after = lane_gave g.rate g.lane g.tape g.drums g.n g.samples.now g.counts.now g.dry.now p.lane_runs p.tape_value p.piecewise _ c.warp_samples-warp.ensures t.result
          t.new.ring t.new.counts t.new.block c.send.new.sent t.ensures.tape_after t.ensures.block_after c.send.ensures;
    }
