use native.Mathlib.Omega.{arith}
use mathlib.Core.Path.{sym, ap}
use Rattle.duck.specs.Cursors.{DuckIn}
use Rattle.tape.specs.Kept.{FrontIn}
use Rattle.tape.proofs.Passes.{tape_ran, tape_outs}
use Rattle.tape.proofs.tape_block.Goals as goal

pub duck_block-duck-requires : goal.duck_block-duck-requires
duck_block-duck-requires c = record {
  within = c.requires.within;
  block_bound = omega (arith, c.equalizer_block-equalizer.auto.block, c.saturate_block.auto.block, c.front_block-tone.auto.block, c.requires.block_bound);
}

pub returns : goal.returns
returns c =
    let a = c.args in
    let f = c.front_block-tone.ensures in
    let x = c.saturate_block.ensures in
    let e = c.equalizer_block-equalizer.ensures in
    let k = c.duck_block-duck.ensures in
    record {
      tape_after =
          rw (ap (λ (u : DuckIn). u.duck) k.duck_after, ap (λ (u : DuckIn). u.part) k.duck_after, e.value, e.block_after, x, f.block_after, ap (λ (u : FrontIn). u.tone) f.front_after, ap (λ (u : FrontIn). u.ring) f.front_after)
          (sym (tape_ran a.rate a.setup a.rain a.drums a.tape a.n a.ring.now a.counts.now a.block.now));
      block_after = rw (k.block_after, e.block_after, x, f.block_after) (sym (tape_outs a.rate a.setup a.rain a.drums a.tape a.n a.ring.now a.counts.now a.block.now));
    }
