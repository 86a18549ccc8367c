-- The plate on its part of the sample store: the same steps, each line being a ring of the part. Definitions only.
-- The part is the input's places, then the left half's, then the right half's.
use Rattle.std.specs.Prelude.{ℕ, ◌+◌, ◌-◌, Bool, ◌&&◌, List, ◌++◌, take, drop, Float}
use Rattle.casts.specs.Arithmetic.{◌⊕◌, ◌⊖◌, ◌⊗◌}
use Rattle.stage.specs.Stage.{Stage}
use Rattle.stream.specs.declared.Frame.{Frame}
use Rattle.onepole.specs.declared.OnePole.{OnePole}
use Rattle.onepole.specs.OnePole.{one_pole_at, one_pole_step, one_pole_at_rest}
use Rattle.biquad.specs.Section.{section_at, section_step, section_at_rest}
use Rattle.delay.specs.Delay.{line_push, line_at, all_zero}
use Rattle.allpass.specs.Allpass.{stored_of, lattice_from_on, lattice_on, stretched_at, delay_on}
use Rattle.rate.specs.declared.InputRate.{InputRate}
use Rattle.rate.specs.declared.HalfRate.{HalfRate}
use Rattle.rate.specs.declared.Taps.{Taps}
use Rattle.rate.specs.declared.PlateRate.{PlateRate}
use Rattle.plate.specs.declared.Tank.{Tank}
use Rattle.plate.specs.declared.Plate.{Plate}
use Rattle.plate.specs.Machine.{input_diffusion1, input_diffusion2, decay_diffusion1, tap_gain, stretch_of}

-- ---- the input's part

unfoldable pub input_on : InputRate → Stage (List Float) Float Float
input_on r n part x =
    let p = delay_on r.predelay n part x in
    let a = lattice_on r.diffuser1 input_diffusion1 n p.next p.out in
    let b = lattice_on r.diffuser2 input_diffusion1 n a.next a.out in
    let c = lattice_on r.diffuser3 input_diffusion2 n b.next b.out in
    lattice_on r.diffuser4 input_diffusion2 n c.next c.out

-- ---- a half's part, and its damping

pub record HalfIn : Type 0 where
  pub damping : OnePole
  pub part : List Float

abbrev pub half_in : OnePole → List Float → HalfIn
half_in damping part = record { damping = damping; part = part }

-- first is what the line of the first lattice gives
unfoldable pub half_from : HalfRate → Float → Float → ℕ → HalfIn → Float → Float → HalfIn
half_from r decay diffusion n s fed first =
    let a = lattice_from_on r.diffuser1 decay_diffusion1 first n s.part fed in
    let b = delay_on r.delay1 n a.next (stored_of a.out) in
    let damping = one_pole_step s.damping b.out in
    let d = lattice_on r.diffuser2 diffusion n b.next (damping.y ⊗ decay) in
    half_in damping (line_push r.delay2.line d.next n (stored_of d.out))

unfoldable pub half_on : HalfRate → Float → Float → ℕ → HalfIn → Float → Float → HalfIn
half_on r decay diffusion n s fed stretch = half_from r decay diffusion n s fed (stretched_at r.diffuser1 r.reach stretch n s.part)

unfoldable pub leaving_on : HalfRate → ℕ → List Float → Float
leaving_on r n part = line_at r.delay2.line part n (r.delay2.delay - 1)

-- n samples pushed
unfoldable pub taps_on : Taps → HalfRate → HalfRate → ℕ → List Float → List Float → Float
taps_on t other own n there here =
    tap_gain
    ⊗ (line_at other.delay1.line there n t.first
    ⊕ line_at other.delay1.line there n t.second
    ⊖ line_at other.diffuser2.line there n t.third
    ⊕ line_at other.delay2.line there n t.fourth
    ⊖ line_at own.delay1.line here n t.fifth
    ⊖ line_at own.diffuser2.line here n t.sixth
    ⊖ line_at own.delay2.line here n t.seventh)

-- ---- the tank's part: the left half's and then the right half's

pub record TankIn : Type 0 where
  pub tank : Tank
  pub part : List Float

abbrev pub tank_in : Tank → List Float → TankIn
tank_in tank part = record { tank = tank; part = part }

unfoldable pub fed_on : PlateRate → ℕ → List Float → Float → Frame
fed_on r n part x =
    let k = r.left.places in
    record { left = x ⊕ r.decay ⊗ leaving_on r.right n (drop k part); right = x ⊕ r.decay ⊗ leaving_on r.left n (take k part) }

unfoldable pub halves_on : PlateRate → ℕ → TankIn → Frame → Frame → TankIn
halves_on r n s fed stretch =
    let k = r.left.places in
    let left = half_on r.left r.decay r.diffusion n (half_in s.tank.left (take k s.part)) fed.left stretch.left in
    let right = half_on r.right r.decay r.diffusion n (half_in s.tank.right (drop k s.part)) fed.right stretch.right in
    tank_in (record { left = left.damping; right = right.damping }) (left.part ++ right.part)

unfoldable pub returned_on : PlateRate → ℕ → List Float → Frame
returned_on r n part =
    let k = r.left.places in
    record { left = taps_on r.left.taps r.right r.left n (drop k part) (take k part); right = taps_on r.right.taps r.left r.right n (take k part) (drop k part) }

unfoldable pub tank_on : PlateRate → Stage TankIn Float Frame
tank_on r n s x =
    let t = halves_on r n s (fed_on r n s.part x) (stretch_of r n) in
    record { next = t; out = returned_on r (n + 1) t.part }

-- ---- the plate's part

pub record PlateIn : Type 0 where
  pub plate : Plate
  pub part : List Float

abbrev pub plate_on : Plate → List Float → PlateIn
plate_on plate part = record { plate = plate; part = part }

unfoldable pub plate_step_on : PlateRate → Stage PlateIn Float Frame
plate_step_on r n s x =
    let k = r.input.places in
    let i = input_on r.input n (take k s.part) x in
    let t = tank_on r n (tank_in s.plate.tank (drop k s.part)) i.out in
    let l = section_step s.plate.left t.out.left in
    let h = section_step s.plate.right t.out.right in
    record { next = plate_on (record { tank = t.next.tank; left = l; right = h }) (i.next ++ t.next.part); out = record { left = l.y1; right = h.y1 } }

unfoldable pub fresh_on : PlateRate → Plate
fresh_on r =
    record { tank = record { left = one_pole_at r.damping; right = one_pole_at r.damping }; left = section_at r.highpass; right = section_at r.highpass }

unfoldable pub quiet_of : Plate → Bool
quiet_of p = one_pole_at_rest p.tank.left && one_pole_at_rest p.tank.right && section_at_rest p.left && section_at_rest p.right

unfoldable pub at_rest_on : PlateIn → Bool
at_rest_on s = all_zero s.part && quiet_of s.plate
