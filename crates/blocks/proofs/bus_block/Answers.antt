use native.Mathlib.Omega.{arith}
use mathlib.Core.Path.{◌≡◌, ap, ◌∙◌}
use lib.ListN.{length}
use borrow.Rule.Slice.PartMut.{mid_len}
use Rattle.master.specs.Kept.{frames_out, counts_out}
use Rattle.blocks.specs.Run.{sents_in}
use Rattle.blocks.proofs.Staged.{ceiling_room, ceiling_well, bus_ended, bus_gave}
use Rattle.blocks.proofs.bus_block.Goals as goal

pub returns : goal.returns
returns c =
    let s = c in
    let g = s.args in
    let m = c.mix-plate in
    let k = c.block-ceiling in
    let p = c.plate_samples-at in
    let long : length m.new.part ≡ p.result = omega (arith, m.auto.part, mid_len 0 p.result g.samples.now (omega (arith, p.ensures, s.requires.bus_runs.long.samples))) in
    let gave = bus_gave g.rate g.bus g.n g.samples.now g.counts.now (sents_in g.dry.now g.left.now) s.requires.bus_runs p.result p.ensures m.new.part long m.result m.new.left m.new.right m.ensures.plate_after m.ensures.left_after m.ensures.right_after in record {
      bus_after = bus_ended g.rate g.bus g.n g.samples.now g.counts.now (sents_in g.dry.now g.left.now) s.requires.bus_runs p.result p.ensures m.new.part long m.result m.new.left m.new.right m.ensures.plate_after m.ensures.left_after m.ensures.right_after
          k.result k.new.samples k.new.counts k.ensures.ceiling_after;
      frames_after = k.ensures.frames_after ∙ ap frames_out gave;
      gains_after = k.ensures.gains_after ∙ ap counts_out gave;
    }
