use native.Mathlib.Omega.{arith}
use mathlib.Core.Path.{refl, ◌∙◌}
use borrow.Rule.Slice.PartMut.{mid_len, put_mid, same_len_mid}
use Prim.Native.Nat.{◌+◌, ◌-◌, ◌*◌}
use Rattle.rate.specs.Rate.{RateUsable}
use Rattle.rate.proofs.Rates.{usable_44100}
use Rattle.tape.proofs.Lasting.{tuned_some}
use Rattle.strip.specs.Kept.{state, lists_in, lane_in}
use Rattle.blocks.specs.Run.{Runs}
use Rattle.blocks.proofs.Rooms.{mid_put, room, back}
use Rattle.blocks.proofs.Going.{go_start, go_turn, go_done}
use Rattle.blocks.proofs.go.Goals as goal

pub loop-i-init : goal.loop-i-init
loop-i-init c =
    let s = c in
    let u : RateUsable c.cd-rate.result = rw c.cd-rate.ensures usable_44100 in
    let runs : Runs c.cd-rate.result (state s.args.strip s.args.store.now s.args.counts.now) = rw c.cd-rate.ensures s.requires.runs in (
      go_start c.cd-rate.result u s.args.drums (state s.args.strip s.args.store.now s.args.counts.now) s.args.samples.now s.args.frames.now s.args.gains.now runs s.requires.frames_len.0 s.requires.frames_len.1,
      (s.requires.frames_len.0, s.requires.frames_len.1, refl, refl, refl, refl, refl),
    )

pub tuned-tape-requires : goal.tuned-tape-requires
tuned-tape-requires c =
    let s = c in
    let l = c.loop-i in
    record { rate_usable = rw c.cd-rate.ensures usable_44100; runs = l.invariant.0.runs; position_lt_last_position = omega (arith, l.invariant.0.place, c.loop-i-test.true, s.requires.samples_bound) }

pub block_len-k-requires : goal.block_len-k-requires
block_len-k-requires c =
    let r = c.cd-rate.result in
    let l = c.loop-i in
    let lists = lists_in r (lane_in r (state l.strip l.store l.counts)) in
    (rw c.tuned-tape.ensures (tuned_some r.tape l.strip.lane.setup.tape.tone l.strip.lane.daylight lists.positions lists.values l.strip.position l.strip.lane.tape), omega (arith, c.loop-i-test.true))

pub block-strip-requires : goal.block-strip-requires
block-strip-requires c =
    let s = c in
    let l = c.loop-i in
    let q = c.tuned-tape.ensures in
    let m = c.block_len-k.ensures in
    let e = c.block_len-k.result in
    let k = mid_len 0 e (put_mid 0 (e - 0) l.dry c.copy_from_slice.new.self) (room (e - 0) e l.dry c.copy_from_slice.new.self c.copy_from_slice.ensures.len (omega (arith, m.3, l.invariant.1.4))) in
    let h = c.loop-i-test.true in record {
      rate_usable = rw c.cd-rate.ensures usable_44100;
      runs = l.invariant.0.runs;
      tape_value = q;
      piecewise = record {
        some = omega (arith, k, m.0);
        few = omega (arith, k, m.1);
        before = omega (arith, k, m.2, l.invariant.0.place, s.requires.samples_bound, h);
      };
      outputs = record {
        left = omega (arith, k, mid_len 0 e l.left (omega (arith, m.3, l.invariant.1.5)));
        right = omega (arith, k, mid_len 0 e l.right (omega (arith, m.3, l.invariant.1.6)));
        frames = omega (arith, k, mid_len (2 * l.i) (2 * (l.i + e)) l.frames (omega (arith, m.2, h, l.invariant.1.0)));
        gains = omega (arith, k, mid_len l.i (l.i + e) l.gains (omega (arith, m.2, h, l.invariant.1.1)));
      };
    }

pub loop-i-preserved : goal.loop-i-preserved
loop-i-preserved c =
    let s = c in
    let r = c.cd-rate in
    let l = c.loop-i in
    let w = c.block-strip in
    let n = c.block_len-k in
    let k = c.copy_from_slice in
    let h = c.loop-i-test.true in
    let u : RateUsable r.result = rw r.ensures usable_44100 in (
      go_turn r.result u s.args.drums (state s.args.strip s.args.store.now s.args.counts.now) s.args.samples.now (state l.strip l.store l.counts) l.frames l.gains l.i _ _ _ l.invariant.0
          (omega arith) (omega (arith, n.ensures.2, h)) (mid_put (n.result - 0) l.dry k.new.self _ k.ensures.len (mid_len 0 n.result l.dry (omega (arith, n.ensures.3, l.invariant.1.4))) k.ensures.after) w.ensures,
      (
        same_len_mid _ _ l.frames w.new.frames w.auto.frames ∙ l.invariant.1.0,
        same_len_mid _ _ l.gains w.new.gains w.auto.gains ∙ l.invariant.1.1,
        w.auto.store ∙ l.invariant.1.2,
        w.auto.counts ∙ l.invariant.1.3,
        back (n.result - 0) 32 _ w.new.dry w.auto.dry (back (n.result - 0) 32 l.dry k.new.self k.ensures.len l.invariant.1.4),
        back (n.result - 0) 32 l.left w.new.left w.auto.left l.invariant.1.5,
        back (n.result - 0) 32 l.right w.new.right w.auto.right l.invariant.1.6,
      ),
    )

pub returns : goal.returns
returns c =
    let s = c in
    let r = c.cd-rate in
    let l = c.loop-i in
    let u : RateUsable r.result = rw r.ensures usable_44100 in
    rw (← r.ensures) (go_done r.result u s.args.drums (state s.args.strip s.args.store.now s.args.counts.now) s.args.samples.now (state l.strip l.store l.counts) l.frames l.gains l.i l.invariant.0 c.loop-i-test.false)
