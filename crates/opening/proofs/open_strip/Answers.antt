-- `open_strip` meets its contract. Assumes nothing.
use mathlib.Core.Path.{refl}
use Rattle.strip.specs.Kept.{lists_of}
use Rattle.opening.proofs.Parts.{opened_whole}
use Rattle.opening.proofs.open_strip.Goals as goal

pub returns : goal.returns
returns c =
    let s = c in
    let g = s.args in
    let k = c.open_lane-lane in
    let v = c.open_bus-bus in
    let lane = c.lane_part-lane_part.ensures in
    let bus = c.bus_part-bus_part.ensures in
    rw (lane, bus)
    (opened_whole g.rate s.requires.rate_usable g.setup (lists_of g.positions.now g.values.now g.kicks.now) g.store.now g.counts.now s.requires.sized _ _ _ _ refl refl refl refl
    k.new.samples k.new.counts k.result v.result v.new.samples v.new.counts (rw lane at k.ensures) (rw (lane, bus) at v.ensures))
