-- The gain of a kick that ducks. Definitions only.
use Rattle.std.specs.Prelude.{ℕ, ◌+◌, ◌-◌, Bool, cond, ◌&&◌, nat_le, nat_lt, Float}
use Rattle.casts.specs.Arithmetic.{◌⊕◌, ◌⊖◌, ◌⊗◌, ◌⊘◌, whole, one}
use Rattle.sidechain.specs.declared.DuckRate.{DuckRate}

-- the samples that a kick ducks for: "k + 8,820"
abbrev pub span : DuckRate → ℕ
span r = r.attack + r.release

-- `sidechain_gain`, so many samples since the kick
unfoldable pub sidechain_gain : DuckRate → ℕ → Float
sidechain_gain r since =
    cond (nat_lt since r.attack) (one ⊖ (one ⊖ r.floor) ⊗ whole since ⊘ whole r.attack)
    (cond (nat_lt since (span r)) (r.floor ⊕ (one ⊖ r.floor) ⊗ whole (since - r.attack) ⊘ whole r.release) one)

-- whether a kick releases so many samples since it, by fewer than 2^32 since its attack
unfoldable pub releases : DuckRate → ℕ → Bool
releases r since = nat_le r.attack since && (nat_lt (since - r.attack) r.release && nat_lt (since - r.attack) 4294967296)
