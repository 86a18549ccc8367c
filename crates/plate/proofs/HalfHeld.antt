-- A half of the tank: the machine's step on histories is the part's step. Assumes nothing.
use Rattle.std.proofs.Common.{◌≡◌, ℕ, ◌+◌, ◌-◌, ◌<◌, ◌≤◌, List, length, sym, ap, ◌∙◌, inl, inr, arith}
use lib.Ieee.{Float}
use Rattle.casts.specs.Arithmetic.{◌⊗◌}
use Rattle.stage.specs.Stage.{Step}
use Rattle.onepole.specs.declared.OnePole.{OnePole}
use Rattle.onepole.specs.OnePole.{one_pole_step}
use Rattle.delay.specs.Delay.{line_push, line_of}
use Rattle.delay.proofs.Line.{line_push_lem, line_at_lem}
use Rattle.rate.specs.declared.HalfRate.{HalfRate}
use Rattle.rate.specs.Plate.{HalfUsable}
use Rattle.allpass.specs.Allpass.{stored_of, lattice_step, stretched_step, delay_step, lattice_from_on, lattice_on, stretched_at, delay_on}
use Rattle.plate.specs.Machine.{decay_diffusion1, HalfMachine, half_step, leaving}
use Rattle.plate.specs.Plate.{HalfIn, half_from, half_on, leaving_on}
use Rattle.allpass.proofs.Lines.{Pushed, Does, push_pushed, lattice_does, stretched_does, delay_does}

pub record HalfHolds (r : HalfRate) (n : ℕ) (m : HalfMachine) (s : HalfIn) : Type 0 where
  pub diffuser1 : m.diffuser1 ≡ line_of r.diffuser1.line s.part n
  pub delay1 : m.delay1 ≡ line_of r.delay1.line s.part n
  pub diffuser2 : m.diffuser2 ≡ line_of r.diffuser2.line s.part n
  pub delay2 : m.delay2 ≡ line_of r.delay2.line s.part n
  pub damping : m.damping ≡ s.damping
  pub long : length s.part ≡ r.places

module _ (r : HalfRate) (u : HalfUsable r) where
  before01 : r.diffuser1.line.at + r.diffuser1.line.ring ≤ r.delay1.line.at
  before01 = omega (arith, u.delay1.placed)

  before02 : r.diffuser1.line.at + r.diffuser1.line.ring ≤ r.diffuser2.line.at
  before02 = omega (arith, u.delay1.placed, u.diffuser2.placed)

  before03 : r.diffuser1.line.at + r.diffuser1.line.ring ≤ r.delay2.line.at
  before03 = omega (arith, u.delay1.placed, u.diffuser2.placed, u.delay2.placed)

  before12 : r.delay1.line.at + r.delay1.line.ring ≤ r.diffuser2.line.at
  before12 = omega (arith, u.diffuser2.placed)

  before13 : r.delay1.line.at + r.delay1.line.ring ≤ r.delay2.line.at
  before13 = omega (arith, u.diffuser2.placed, u.delay2.placed)

  before23 : r.diffuser2.line.at + r.diffuser2.line.ring ≤ r.delay2.line.at
  before23 = omega (arith, u.delay2.placed)

  pub room0 : (s : List Float) → length s ≡ r.places → r.diffuser1.line.at + r.diffuser1.line.ring ≤ length s
  room0 s e = omega (arith, u.places, u.delay1.placed, u.diffuser2.placed, u.delay2.placed)

  pub room1 : (s : List Float) → length s ≡ r.places → r.delay1.line.at + r.delay1.line.ring ≤ length s
  room1 s e = omega (arith, u.places, u.diffuser2.placed, u.delay2.placed)

  pub room2 : (s : List Float) → length s ≡ r.places → r.diffuser2.line.at + r.diffuser2.line.ring ≤ length s
  room2 s e = omega (arith, u.places, u.delay2.placed)

  pub room3 : (s : List Float) → length s ≡ r.places → r.delay2.line.at + r.delay2.line.ring ≤ length s
  room3 s e = omega (arith, u.places)

module _ (r : HalfRate) (u : HalfUsable r) (decay diffusion : Float) (n : ℕ) (m : HalfMachine) (s : HalfIn) (h : HalfHolds r n m s) (fed fed' stretch : Float) (same : fed ≡ fed') where
  abbrev a₁ : Step (List Float) Float
  a₁ = stretched_step r.diffuser1 r.reach stretch decay_diffusion1 m.diffuser1 fed

  abbrev a₂ : Step (List Float) Float
  a₂ = lattice_from_on r.diffuser1 decay_diffusion1 (stretched_at r.diffuser1 r.reach stretch n s.part) n s.part fed'

  a_does : Does r.diffuser1.line s.part n a₁ a₂
  a_does =
      stretched_does r.diffuser1 _ u.diffuser1 s.part n (room0 r u s.part h.long) m.diffuser1 h.diffuser1 fed fed' same r.reach stretch decay_diffusion1
      u.reaches

  a_long : length a₂.next ≡ r.places
  a_long = a_does.pushed.long ∙ h.long

  abbrev b₁ : Step (List Float) Float
  b₁ = delay_step r.delay1 m.delay1 (stored_of a₁.out)

  abbrev b₂ : Step (List Float) Float
  b₂ = delay_on r.delay1 n a₂.next (stored_of a₂.out)

  b_does : Does r.delay1.line a₂.next n b₁ b₂
  b_does =
      delay_does r.delay1 _ u.delay1 a₂.next n (room1 r u a₂.next a_long) m.delay1
      (h.delay1 ∙ a_does.pushed.other r.delay1.line u.delay1.ring (inl (before01 r u)) n)
      (stored_of a₁.out) (stored_of a₂.out) (ap stored_of a_does.out)

  b_long : length b₂.next ≡ r.places
  b_long = b_does.pushed.long ∙ a_long

  damped : one_pole_step m.damping b₁.out ≡ one_pole_step s.damping b₂.out
  damped = rw (h.damping, b_does.out)

  abbrev d₁ : Step (List Float) Float
  d₁ = lattice_step r.diffuser2 diffusion m.diffuser2 ((one_pole_step m.damping b₁.out).y ⊗ decay)

  abbrev d₂ : Step (List Float) Float
  d₂ = lattice_on r.diffuser2 diffusion n b₂.next ((one_pole_step s.damping b₂.out).y ⊗ decay)

  d_does : Does r.diffuser2.line b₂.next n d₁ d₂
  d_does =
      lattice_does r.diffuser2 _ u.diffuser2 b₂.next n (room2 r u b₂.next b_long) m.diffuser2
      (h.diffuser2 ∙ a_does.pushed.other r.diffuser2.line u.diffuser2.ring (inl (before02 r u)) n ∙ b_does.pushed.other r.diffuser2.line u.diffuser2.ring (inl (before12 r u)) n)
      _ _ (ap (λ (q : OnePole). q.y ⊗ decay) damped) diffusion

  d_long : length d₂.next ≡ r.places
  d_long = d_does.pushed.long ∙ b_long

  e_pushed : Pushed r.delay2.line d₂.next (line_push r.delay2.line d₂.next n (stored_of d₂.out))
  e_pushed = push_pushed r.delay2.line u.delay2.ring d₂.next n (stored_of d₂.out)

  pub half_keeps : HalfHolds r (n + 1) (half_step r decay diffusion m fed stretch) (half_on r decay diffusion n s fed' stretch)
  unfolding half_step half_on half_from
  half_keeps =
      record {
        diffuser1 = a_does.own ∙ b_does.pushed.other r.diffuser1.line u.diffuser1.ring (inr (before01 r u)) (n + 1) ∙ d_does.pushed.other r.diffuser1.line u.diffuser1.ring (inr (before02 r u)) (n + 1) ∙ e_pushed.other r.diffuser1.line u.diffuser1.ring (inr (before03 r u)) (n + 1);
        delay1 = b_does.own ∙ d_does.pushed.other r.delay1.line u.delay1.ring (inr (before12 r u)) (n + 1) ∙ e_pushed.other r.delay1.line u.delay1.ring (inr (before13 r u)) (n + 1);
        diffuser2 = d_does.own ∙ e_pushed.other r.diffuser2.line u.diffuser2.ring (inr (before23 r u)) (n + 1);
        delay2 =
            rw (h.delay2, a_does.pushed.other r.delay2.line u.delay2.ring (inl (before03 r u)) n, b_does.pushed.other r.delay2.line u.delay2.ring (inl (before13 r u)) n, d_does.pushed.other r.delay2.line u.delay2.ring (inl (before23 r u)) n, d_does.out)
            (sym (line_push_lem r.delay2.line u.delay2.ring d₂.next n (stored_of d₂.out) (room3 r u d₂.next d_long)));
        damping = damped;
        long = e_pushed.long ∙ d_long;
      }

pub leaving_same : (r : HalfRate) → HalfUsable r → (n : ℕ) (m : HalfMachine) (s : HalfIn) → HalfHolds r n m s → leaving r m ≡ leaving_on r n s.part
unfolding leaving leaving_on
leaving_same r u n m s h =
    let k : r.delay2.delay - 1 < r.delay2.line.ring = omega (arith, u.delay2.within) in
    rw h.delay2 (line_at_lem r.delay2.line u.delay2.ring s.part n (r.delay2.delay - 1) k)
