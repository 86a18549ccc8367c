use mathlib.Core.Path.{refl, ◌∙◌}
use mathlib.Core.List.{[], ◌∷◌, ◌++◌}
use Rattle.laying.proofs.Joined.{lay_behind}
use Rattle.packing.specs.Packing.{own_words_long, lane_words_at, bus_words, lane_words, packed_words}
use Rattle.packing.proofs.pack_words.Goals as goal

pub returns : goal.returns
unfolding packed_words
returns c =
    let s = c.args in
    let own = s.strip.position ∷ [] in
    lay_behind lane_words_at (own ++ bus_words s.strip.bus) (lane_words s.strip.lane) s.words.now refl
    (lay_behind own_words_long own (bus_words s.strip.bus) s.words.now refl c.lay.ensures (c.lay-2.ensures ∙ rw c.bus_words-b.ensures))
    (c.lay-3.ensures ∙ rw c.lane_words-k.ensures)
