-- The table holds the rule: antt computes it at each of the 441 entries. Assumes nothing.
use Rattle.std.proofs.Common.{◌≡◌, ℕ, ◌<◌, List, get_or, refl, ap, ◌∙◌, zero-add}
use Rattle.std.specs.List.{range_with_len}
use Rattle.std.specs.Prelude.{map}
use Rattle.std.proofs.lemmas.List.FromFn.{get_or-map-range_with_len}
use lib.Ieee.{Float, nan, of_bits, of_int, add, sub, mul, div, round}
use Rattle.attack.specs.declared.TheConstants.{TABLE}
use Rattle.attack.specs.Machine.{attack_gain}
use Rattle.attack.specs.Kept.{strip_floor}

table_is : TABLE ≡ map (attack_gain strip_floor 441) (range_with_len 0 441)
unfolding attack_gain of_bits of_int add sub mul div round
table_is = refl

pub table_entry : (j : ℕ) → j < 441 → get_or TABLE j nan ≡ attack_gain strip_floor 441 j
table_entry j h = ap (λ (table : List Float). get_or table j nan) table_is ∙ get_or-map-range_with_len (attack_gain strip_floor 441) 0 441 j j nan h (zero-add j)
