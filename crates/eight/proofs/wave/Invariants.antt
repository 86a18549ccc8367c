use Rattle.std.proofs.Common.{◌≡◌, map}
use lib.Ieee.{Float}
use Rattle.casts.specs.Arithmetic.{one}
use Rattle.elementary.specs.Elementary.{down}
use Rattle.eight.specs.Each.{wave_step}
use Rattle.eight.proofs.wave.Given as goal

abbrev pub invariant-loop-j : goal.invariant-loop-j
invariant-loop-j l = (g : Float → Float) × (l.s ≡ map g l.z) × ((u : Float) → down (wave_step l.odd u) l.j (g u) ≡ down (wave_step l.odd u) l.terms one)
