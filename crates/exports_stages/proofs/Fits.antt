-- The rate's numbers fit the places that the harness lends. Assumes nothing.
use mathlib.Core.Path.{◌≡◌, refl, subst⁻¹}
use mathlib.Core.List.{List}
use Prim.Native.Nat.{ℕ, ◌≤◌}
use native.Mathlib.Omega.{arith}
use lib.ListN.{length}
use lib.Dec.{T}
use lib.Ieee.{Float}
use Rattle.stream.specs.declared.Frame.{Frame}
use Rattle.stage.specs.Stage.{ran}
use Rattle.rate.specs.declared.TapeRate.{TapeRate}
use Rattle.rate.specs.declared.CeilingRate.{CeilingRate}
use Rattle.rate.specs.Tape.{tape_rate}
use Rattle.rate.specs.Ceiling.{ceiling_rate}
use Rattle.rate.proofs.Tape.{warp_44100, tape_44100}
use Rattle.rate.proofs.Ceiling.{ceiling_44100, usable_44100}
use Rattle.tape.specs.Kept.{WarpFits}
use Rattle.master.specs.Kept.{CeilingIn, ceiling_step_on}
use Rattle.master.specs.WellFormed.{Sized, well_formed}
use Rattle.master.proofs.Stays.{well_formed_after}

pub warp_fits : (r : TapeRate) (ring : List Float) → r ≡ tape_rate 44100 → length ring ≡ 64 → WarpFits r ring
warp_fits r ring e l =
    subst⁻¹ (λ (x : TapeRate). WarpFits x ring) e
    (record { some = tape_44100.warp.some; room = omega (arith, tape_44100.placed, warp_44100); reach = tape_44100.reach })

pub sized_of : (r : CeilingRate) (samples : List Float) (counts : List ℕ) → r ≡ ceiling_rate 44100 → 1323 ≤ length samples → 1104 ≤ length counts → Sized r samples counts
sized_of r samples counts e s k = record { room = rw (e, ceiling_44100) s; rooms = rw (e, ceiling_44100) k }

-- a call leaves a well-formed ceiling well-formed
pub stays : (r : CeilingRate) (n : ℕ) (c k : CeilingIn) (fs : List Frame) → r ≡ ceiling_rate 44100 → k ≡ ran (ceiling_step_on r) n c fs
    → 1323 ≤ length c.samples
    → 1104 ≤ length c.counts
    → T (well_formed (ceiling_rate 44100) c)
    → T (well_formed (ceiling_rate 44100) k)
stays r n c k fs e h s t w = rw (h, e) (well_formed_after (ceiling_rate 44100) usable_44100 n c fs (sized_of (ceiling_rate 44100) c.samples c.counts refl s t) w)
