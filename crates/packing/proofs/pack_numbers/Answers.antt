use mathlib.Core.Path.{refl, ◌∙◌}
use Rattle.laying.proofs.Joined.{lay_behind}
use Rattle.packing.specs.Packing.{bus_numbers_long, bus_numbers, lane_numbers, packed_numbers}
use Rattle.packing.proofs.pack_numbers.Goals as goal

pub returns : goal.returns
unfolding packed_numbers
returns c =
    let s = c.args in
    lay_behind bus_numbers_long (bus_numbers s.strip.bus) (lane_numbers s.strip.lane) s.numbers.now refl
    (c.lay.ensures ∙ rw c.bus_numbers-b.ensures)
    (c.lay-2.ensures ∙ rw c.lane_numbers-k.ensures)
