-- The plate's theorem: at any usable rate, its step on its part of the sample store is the machine's on histories. Assumes nothing.
use Rattle.std.proofs.Common.{◌≡◌, ℕ, ◌+◌, List, length, take, drop, ap, ◌∙◌, length-append, take_at, drop_at}
use lib.Ieee.{Float}
use Rattle.stage.specs.Stage.{Step}
use Rattle.stage.proofs.Laws.{Relates}
use Rattle.stream.specs.declared.Frame.{Frame}
use Rattle.biquad.specs.Section.{section_step}
use Rattle.delay.proofs.Line.{line_at_lem}
use Rattle.rate.specs.declared.HalfRate.{HalfRate}
use Rattle.rate.specs.declared.Taps.{Taps}
use Rattle.rate.specs.declared.PlateRate.{PlateRate}
use Rattle.rate.specs.Plate.{HalfUsable, TapsUsable, PlateUsable}
use Rattle.plate.specs.Machine.{InputMachine, HalfMachine, taps_of, TankMachine, fed_of, stretch_of, tank_step, returned_of, PlateMachine, input_step, plate_step}
use Rattle.rate.specs.Stores.{plate_samples}
use Rattle.plate.specs.Plate.{HalfIn, half_in, half_on, taps_on, TankIn, tank_in, fed_on, halves_on, returned_on, tank_on, input_on, PlateIn, plate_step_on}
use Rattle.plate.proofs.InputHeld.{InputHolds, input_keeps, input_same}
use Rattle.plate.proofs.HalfHeld.{HalfHolds, half_keeps, leaving_same}

-- ---- a side's taps

module _ (t : Taps) (other own : HalfRate) (u : HalfUsable other) (v : HalfUsable own) (w : TapsUsable t other own) (n : ℕ) (there here : HalfMachine) (s z : HalfIn) (h : HalfHolds other n there s) (k : HalfHolds own n here z) where
  taps_same : taps_of t there here ≡ taps_on t other own n s.part z.part
  unfolding taps_of taps_on
  taps_same =
      rw (h.delay1, h.diffuser2, h.delay2, k.delay1, k.diffuser2, k.delay2)
      (rw (line_at_lem other.delay1.line u.delay1.ring s.part n t.first w.first, line_at_lem other.delay1.line u.delay1.ring s.part n t.second w.second)
      (rw (line_at_lem other.diffuser2.line u.diffuser2.ring s.part n t.third w.third, line_at_lem other.delay2.line u.delay2.ring s.part n t.fourth w.fourth)
      (rw (line_at_lem own.delay1.line v.delay1.ring z.part n t.fifth w.fifth, line_at_lem own.diffuser2.line v.diffuser2.ring z.part n t.sixth w.sixth, line_at_lem own.delay2.line v.delay2.ring z.part n t.seventh w.seventh))))

-- ---- the tank

pub record TankHolds (r : PlateRate) (n : ℕ) (m : TankMachine) (s : TankIn) : Type 0 where
  pub left : HalfHolds r.left n m.left (half_in s.tank.left (take r.left.places s.part))
  pub right : HalfHolds r.right n m.right (half_in s.tank.right (drop r.left.places s.part))

module _ (r : PlateRate) (u : PlateUsable r) (n : ℕ) (m : TankMachine) (s : TankIn) (h : TankHolds r n m s) where
  returned_same : returned_of r m ≡ returned_on r n s.part
  unfolding returned_of returned_on
  returned_same =
      rw (taps_same r.left.taps r.right r.left u.right u.left u.left_taps n m.right m.left _ _ h.right h.left)
      (rw (taps_same r.right.taps r.left r.right u.left u.right u.right_taps n m.left m.right _ _ h.left h.right))

  module _ (x y : Float) (same : x ≡ y) where
    fed_same : fed_of r m x ≡ fed_on r n s.part y
    unfolding fed_of fed_on
    fed_same = rw (same, leaving_same r.right u.right n m.right _ h.right, leaving_same r.left u.left n m.left _ h.left)

    abbrev fed : Frame
    fed = fed_on r n s.part y

    abbrev stretch : Frame
    stretch = stretch_of r n

    abbrev left : HalfIn
    left = half_on r.left r.decay r.diffusion n (half_in s.tank.left (take r.left.places s.part)) fed.left stretch.left

    abbrev right : HalfIn
    right = half_on r.right r.decay r.diffusion n (half_in s.tank.right (drop r.left.places s.part)) fed.right stretch.right

    left_held : HalfHolds r.left (n + 1) (tank_step r n m x).left left
    unfolding tank_step
    left_held = half_keeps r.left u.left r.decay r.diffusion n m.left _ h.left _ _ stretch.left (ap (λ (f : Frame). f.left) fed_same)

    right_held : HalfHolds r.right (n + 1) (tank_step r n m x).right right
    unfolding tank_step
    right_held = half_keeps r.right u.right r.decay r.diffusion n m.right _ h.right _ _ stretch.right (ap (λ (f : Frame). f.right) fed_same)

    pub tank_keeps : TankHolds r (n + 1) (tank_step r n m x) (tank_on r n s y).next
    unfolding tank_on halves_on
    tank_keeps =
        record {
          left = rw (take_at left.part right.part r.left.places left_held.long) left_held;
          right = rw (drop_at left.part right.part r.left.places left_held.long) right_held;
        }

    pub tank_long : length (tank_on r n s y).next.part ≡ r.left.places + r.right.places
    unfolding tank_on halves_on
    tank_long = length-append left.part right.part ∙ rw (left_held.long, right_held.long)

module _ (r : PlateRate) (u : PlateUsable r) (n : ℕ) (m : TankMachine) (s : TankIn) (h : TankHolds r n m s) (x y : Float) (same : x ≡ y) where
  pub tank_same : returned_of r (tank_step r n m x) ≡ (tank_on r n s y).out
  unfolding tank_on
  tank_same = returned_same r u (n + 1) (tank_step r n m x) _ (tank_keeps r u n m s h x y same)

-- ---- the plate

pub record PlateHolds (r : PlateRate) (n : ℕ) (m : PlateMachine) (s : PlateIn) : Type 0 where
  pub input : InputHolds r.input n m.input (take r.input.places s.part)
  pub tank : TankHolds r n m.tank (tank_in s.plate.tank (drop r.input.places s.part))
  pub left : m.left_highpass ≡ s.plate.left
  pub right : m.right_highpass ≡ s.plate.right
  pub long : length s.part ≡ plate_samples r

module _ (r : PlateRate) (u : PlateUsable r) (n : ℕ) (m : PlateMachine) (s : PlateIn) (x : Float) (h : PlateHolds r n m s) where
  abbrev i₁ : Step InputMachine Float
  i₁ = input_step r.input m.input x

  abbrev i₂ : Step (List Float) Float
  i₂ = input_on r.input n (take r.input.places s.part) x

  input_held : InputHolds r.input (n + 1) i₁.next i₂.next
  input_held = input_keeps r.input u.input n m.input _ h.input x

  input_out : i₁.out ≡ i₂.out
  input_out = input_same r.input u.input n m.input _ h.input x

  abbrev t₂ : Step TankIn Frame
  t₂ = tank_on r n (tank_in s.plate.tank (drop r.input.places s.part)) i₂.out

  tank_held : TankHolds r (n + 1) (tank_step r n m.tank i₁.out) t₂.next
  tank_held = tank_keeps r u n m.tank _ h.tank i₁.out i₂.out input_out

  frames : returned_of r (tank_step r n m.tank i₁.out) ≡ t₂.out
  frames = tank_same r u n m.tank _ h.tank i₁.out i₂.out input_out

  left_same : section_step m.left_highpass (returned_of r (tank_step r n m.tank i₁.out)).left ≡ section_step s.plate.left t₂.out.left
  left_same = rw (h.left, frames)

  right_same : section_step m.right_highpass (returned_of r (tank_step r n m.tank i₁.out)).right ≡ section_step s.plate.right t₂.out.right
  right_same = rw (h.right, frames)

  plate_keeps : PlateHolds r (n + 1) (plate_step r n m x).next (plate_step_on r n s x).next
  unfolding plate_step plate_step_on
  plate_keeps =
      record {
        input = rw (take_at i₂.next t₂.next.part r.input.places input_held.long) input_held;
        tank = rw (drop_at i₂.next t₂.next.part r.input.places input_held.long) tank_held;
        left = left_same;
        right = right_same;
        long = length-append i₂.next t₂.next.part ∙ rw (input_held.long, tank_long r u n m.tank _ h.tank i₁.out i₂.out input_out);
      }

  plate_same : (plate_step r n m x).out ≡ (plate_step_on r n s x).out
  unfolding plate_step plate_step_on
  plate_same = rw (left_same, right_same)

pub plate_relates : (r : PlateRate) → PlateUsable r → Relates (PlateHolds r) (plate_step r) (plate_step_on r)
plate_relates r u = record { keeps = λ n m s x h. plate_keeps r u n m s x h; same = λ n m s x h. plate_same r u n m s x h }
