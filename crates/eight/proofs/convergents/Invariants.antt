use Rattle.std.proofs.Common.{◌≡◌, map}
use lib.Ieee.{Float}
use Rattle.elementary.specs.Elementary.{tanh_step, down}
use Rattle.elementary.specs.Convergent.{convergent}
use Rattle.eight.proofs.convergents.Given as goal

abbrev pub invariant-loop-i : goal.invariant-loop-i
invariant-loop-i l = (g : Float → Float) × (l.t ≡ map g l.z) × ((u : Float) → down (tanh_step u) l.i (g u) ≡ convergent u l.n)
