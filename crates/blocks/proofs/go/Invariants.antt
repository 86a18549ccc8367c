use mathlib.Core.Path.{◌≡◌}
use Prim.Native.Nat.{◌-◌, ◌*◌}
use lib.ListN.{length}
use Rattle.strip.specs.Kept.{state}
use Rattle.blocks.proofs.Going.{Going}
use Rattle.blocks.proofs.go.Given as goal

abbrev pub invariant-loop-i : goal.invariant-loop-i
invariant-loop-i l =
    Going l.rate l.drums (state l.initial.strip l.initial.store l.initial.counts) l.samples (state l.strip l.store l.counts) l.frames l.gains l.i
    × ((length l.frames ≡ 2 * length l.samples) × (length l.gains ≡ length l.samples) × (length l.store ≡ length l.initial.store) × (length l.counts ≡ length l.initial.counts) × (length l.dry ≡ 32) × (length l.left ≡ 32) × (length l.right ≡ 32))

abbrev pub decreases-loop-i : goal.decreases-loop-i
decreases-loop-i l = length l.samples - l.i
