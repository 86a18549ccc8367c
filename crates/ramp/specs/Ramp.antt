-- A control's ramp. Definitions only.
use Rattle.std.specs.Prelude.{ℕ, ◌+◌, ◌-◌, cond, nat_le, Float}
use Rattle.std.specs.Float.Ieee.{eq}
use Rattle.casts.specs.Arithmetic.{◌⊕◌, ◌⊖◌, ◌⊗◌, ◌⊘◌, whole, one}
use Rattle.elementary.specs.Elementary.{POW}
use Rattle.ramp.specs.declared.Shape.{Shape}
use Rattle.ramp.specs.declared.Shape.TheVariants.{Linear, Db}
use Rattle.ramp.specs.declared.Ramp.{Ramp}

-- "Fresh, .. the ramps stand at the setup's values"
unfoldable pub held : Float → Shape → Ramp
held value shape = record { from = value; to = value; start = 0; len = 0; shape = shape }

abbrev pub ramp_end : Ramp → ℕ
ramp_end r = r.start + r.len

-- x of the way
unfoldable pub shaped : Shape → Float → Float → Float → Float
shaped Linear from to x = from ⊗ (one ⊖ x) ⊕ to ⊗ x
shaped Db from to x = from ⊗ POW (to ⊘ from) x

-- the value at n: `to` from the end on, `from` up to the start
unfoldable pub ramp_at : Ramp → ℕ → Float
ramp_at r n =
    cond (nat_le (ramp_end r) n) r.to
    (cond (nat_le n r.start) r.from (shaped r.shape r.from r.to (whole (n - r.start) ⊘ whole r.len)))

-- "an equal target changes nothing, otherwise it goes from the value at n to the target over the given length"
unfoldable pub toward : Ramp → ℕ → Float → ℕ → Ramp
toward r n to len = cond (eq r.to to) r (record { from = ramp_at r n; to = to; start = n; len = len; shape = r.shape })
