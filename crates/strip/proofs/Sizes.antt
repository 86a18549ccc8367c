-- A sample leaves the plate's and the ceiling's parts as long as they were. Assumes nothing.
use mathlib.Core.Path.{◌≡◌, sym, ap, ◌∙◌}
use Prim.Native.Nat.{ℕ, ◌+◌}
use native.Mathlib.Omega.{arith}
use mathlib.Core.List.{List, ◌++◌}
use lib.ListN.{length, take, drop, length-set, length-append, take-append-drop}
use lib.Ieee.{Float}
use Rattle.stream.specs.declared.Frame.{Frame}
use Rattle.delay.specs.Delay.{store_push}
use Rattle.rate.specs.declared.LineRate.{LineRate}
use Rattle.rate.specs.declared.InputRate.{InputRate}
use Rattle.rate.specs.declared.HalfRate.{HalfRate}
use Rattle.rate.specs.declared.PlateRate.{PlateRate}
use Rattle.rate.specs.declared.CeilingRate.{CeilingRate}
use Rattle.allpass.specs.Allpass.{lattice_from_on, lattice_on, delay_on}
use Rattle.plate.specs.Plate.{input_on, HalfIn, half_in, half_from, half_on, TankIn, tank_in, fed_on, halves_on, tank_on, PlateIn, plate_step_on}
use Rattle.plate.specs.Machine.{stretch_of}
use Rattle.master.specs.Kept.{CeilingIn, multiplied_step_on, ceiling_step_on}

from_sized : (r : LineRate) (g d : Float) (n : ℕ) (part : List Float) (x : Float) → length (lattice_from_on r g d n part x).next ≡ length part
unfolding lattice_from_on store_push
from_sized r g d n part x = length-set part _ _

lattice_sized : (r : LineRate) (g : Float) (n : ℕ) (part : List Float) (x : Float) → length (lattice_on r g n part x).next ≡ length part
unfolding lattice_on
lattice_sized r g n part x = from_sized r g _ n part x

delay_sized : (r : LineRate) (n : ℕ) (part : List Float) (x : Float) → length (delay_on r n part x).next ≡ length part
unfolding delay_on store_push
delay_sized r n part x = length-set part _ _

input_sized : (r : InputRate) (n : ℕ) (part : List Float) (x : Float) → length (input_on r n part x).next ≡ length part
unfolding input_on
input_sized r n part x =
    lattice_sized r.diffuser4 _ n _ _
    ∙ lattice_sized r.diffuser3 _ n _ _
    ∙ lattice_sized r.diffuser2 _ n _ _
    ∙ lattice_sized r.diffuser1 _ n _ _
    ∙ delay_sized r.predelay n part x

half_sized : (r : HalfRate) (decay diffusion : Float) (n : ℕ) (s : HalfIn) (fed stretch : Float) → length (half_on r decay diffusion n s fed stretch).part ≡ length s.part
unfolding half_on half_from store_push
half_sized r decay diffusion n s fed stretch =
    simp length-set
    (lattice_sized r.diffuser2 diffusion n _ _
    ∙ delay_sized r.delay1 n _ _
    ∙ from_sized r.diffuser1 _ _ n s.part fed)

two_parts : (k : ℕ) (l a b : List Float) → length a ≡ length (take k l) → length b ≡ length (drop k l) → length (a ++ b) ≡ length l
two_parts k l a b e f =
    let u : length (take k l) + length (drop k l) ≡ length l = sym (length-append (take k l) (drop k l)) ∙ ap length (take-append-drop k l) in
    length-append a b ∙ omega arith

halves_sized : (r : PlateRate) (n : ℕ) (s : TankIn) (fed stretch : Frame) → length (halves_on r n s fed stretch).part ≡ length s.part
unfolding halves_on
halves_sized r n s fed stretch =
    let k = r.left.places in
    let a = half_in s.tank.left (take k s.part) in
    let b = half_in s.tank.right (drop k s.part) in
    two_parts k s.part (half_on r.left r.decay r.diffusion n a fed.left stretch.left).part (half_on r.right r.decay r.diffusion n b fed.right stretch.right).part
    (half_sized r.left r.decay r.diffusion n a fed.left stretch.left)
    (half_sized r.right r.decay r.diffusion n b fed.right stretch.right)

tank_sized : (r : PlateRate) (n : ℕ) (s : TankIn) (x : Float) → length (tank_on r n s x).next.part ≡ length s.part
unfolding tank_on
tank_sized r n s x = halves_sized r n s (fed_on r n s.part x) (stretch_of r n)

pub plate_sized : (r : PlateRate) (n : ℕ) (s : PlateIn) (x : Float) → length (plate_step_on r n s x).next.part ≡ length s.part
unfolding plate_step_on
plate_sized r n s x =
    let k = r.input.places in
    let i = input_on r.input n (take k s.part) x in
    let t = tank_in s.plate.tank (drop k s.part) in
    two_parts k s.part i.next (tank_on r n t i.out).next.part (input_sized r.input n (take k s.part) x) (tank_sized r n t i.out)

pub samples_sized : (r : CeilingRate) (n : ℕ) (k : CeilingIn) (f : Frame) → length (ceiling_step_on r n k f).next.samples ≡ length k.samples
unfolding ceiling_step_on multiplied_step_on
samples_sized r n k f = simp length-set

pub counts_sized : (r : CeilingRate) (n : ℕ) (k : CeilingIn) (f : Frame) → length (ceiling_step_on r n k f).next.counts ≡ length k.counts
unfolding ceiling_step_on multiplied_step_on
counts_sized r n k f = simp length-set
