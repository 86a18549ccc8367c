-- The gain of a kick that attacks. Definitions only.
use Rattle.std.specs.Prelude.{ℕ, Float}
use Rattle.casts.specs.Arithmetic.{◌⊖◌, ◌⊗◌, ◌⊘◌, whole, one}

-- document 02, E2: "entry j being 1 − ((1 − floor)·j)/441 at the strip's floor, each operation rounded as before", here of any floor and of an
-- attack of any length; `sidechain_gain` has it so (`gain_attacking`, crates/sidechain/proofs/Gain.antt)
unfoldable pub attack_gain : Float → ℕ → ℕ → Float
attack_gain floor attack j = one ⊖ (one ⊖ floor) ⊗ whole j ⊘ whole attack
