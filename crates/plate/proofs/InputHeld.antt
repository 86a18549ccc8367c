-- The predelay and the input lattices: the machine's step on histories is the part's step. Assumes nothing.
use Rattle.std.proofs.Common.{◌≡◌, ℕ, ◌+◌, ◌≤◌, List, length, refl, ◌∙◌, inl, inr, arith}
use lib.Ieee.{Float}
use Rattle.stage.specs.Stage.{Step}
use Rattle.delay.specs.Delay.{line_of}
use Rattle.rate.specs.declared.InputRate.{InputRate}
use Rattle.rate.specs.Plate.{InputUsable}
use Rattle.allpass.specs.Allpass.{lattice_step, delay_step, lattice_on, delay_on}
use Rattle.plate.specs.Machine.{input_diffusion1, input_diffusion2, InputMachine, input_step}
use Rattle.plate.specs.Plate.{input_on}
use Rattle.allpass.proofs.Lines.{Does, lattice_does, delay_does}

pub record InputHolds (r : InputRate) (n : ℕ) (m : InputMachine) (s : List Float) : Type 0 where
  pub predelay : m.predelay ≡ line_of r.predelay.line s n
  pub diffuser1 : m.diffuser1 ≡ line_of r.diffuser1.line s n
  pub diffuser2 : m.diffuser2 ≡ line_of r.diffuser2.line s n
  pub diffuser3 : m.diffuser3 ≡ line_of r.diffuser3.line s n
  pub diffuser4 : m.diffuser4 ≡ line_of r.diffuser4.line s n
  pub long : length s ≡ r.places

-- where the lines lie: each ends where the next begins
module _ (r : InputRate) (u : InputUsable r) where
  before01 : r.predelay.line.at + r.predelay.line.ring ≤ r.diffuser1.line.at
  before01 = omega (arith, u.diffuser1.placed)

  before02 : r.predelay.line.at + r.predelay.line.ring ≤ r.diffuser2.line.at
  before02 = omega (arith, u.diffuser1.placed, u.diffuser2.placed)

  before03 : r.predelay.line.at + r.predelay.line.ring ≤ r.diffuser3.line.at
  before03 = omega (arith, u.diffuser1.placed, u.diffuser2.placed, u.diffuser3.placed)

  before04 : r.predelay.line.at + r.predelay.line.ring ≤ r.diffuser4.line.at
  before04 = omega (arith, u.diffuser1.placed, u.diffuser2.placed, u.diffuser3.placed, u.diffuser4.placed)

  before12 : r.diffuser1.line.at + r.diffuser1.line.ring ≤ r.diffuser2.line.at
  before12 = omega (arith, u.diffuser2.placed)

  before13 : r.diffuser1.line.at + r.diffuser1.line.ring ≤ r.diffuser3.line.at
  before13 = omega (arith, u.diffuser2.placed, u.diffuser3.placed)

  before14 : r.diffuser1.line.at + r.diffuser1.line.ring ≤ r.diffuser4.line.at
  before14 = omega (arith, u.diffuser2.placed, u.diffuser3.placed, u.diffuser4.placed)

  before23 : r.diffuser2.line.at + r.diffuser2.line.ring ≤ r.diffuser3.line.at
  before23 = omega (arith, u.diffuser3.placed)

  before24 : r.diffuser2.line.at + r.diffuser2.line.ring ≤ r.diffuser4.line.at
  before24 = omega (arith, u.diffuser3.placed, u.diffuser4.placed)

  before34 : r.diffuser3.line.at + r.diffuser3.line.ring ≤ r.diffuser4.line.at
  before34 = omega (arith, u.diffuser4.placed)

  pub room0 : (s : List Float) → length s ≡ r.places → r.predelay.line.at + r.predelay.line.ring ≤ length s
  room0 s e = omega (arith, u.places, u.diffuser1.placed, u.diffuser2.placed, u.diffuser3.placed, u.diffuser4.placed)

  pub room1 : (s : List Float) → length s ≡ r.places → r.diffuser1.line.at + r.diffuser1.line.ring ≤ length s
  room1 s e = omega (arith, u.places, u.diffuser2.placed, u.diffuser3.placed, u.diffuser4.placed)

  pub room2 : (s : List Float) → length s ≡ r.places → r.diffuser2.line.at + r.diffuser2.line.ring ≤ length s
  room2 s e = omega (arith, u.places, u.diffuser3.placed, u.diffuser4.placed)

  pub room3 : (s : List Float) → length s ≡ r.places → r.diffuser3.line.at + r.diffuser3.line.ring ≤ length s
  room3 s e = omega (arith, u.places, u.diffuser4.placed)

  pub room4 : (s : List Float) → length s ≡ r.places → r.diffuser4.line.at + r.diffuser4.line.ring ≤ length s
  room4 s e = omega (arith, u.places)

module _ (r : InputRate) (u : InputUsable r) (n : ℕ) (m : InputMachine) (s : List Float) (h : InputHolds r n m s) (x : Float) where
  abbrev p₁ : Step (List Float) Float
  p₁ = delay_step r.predelay m.predelay x

  abbrev p₂ : Step (List Float) Float
  p₂ = delay_on r.predelay n s x

  p_does : Does r.predelay.line s n p₁ p₂
  p_does = delay_does r.predelay _ u.predelay s n (room0 r u s h.long) m.predelay h.predelay x x refl

  p_long : length p₂.next ≡ r.places
  p_long = p_does.pushed.long ∙ h.long

  abbrev a₁ : Step (List Float) Float
  a₁ = lattice_step r.diffuser1 input_diffusion1 m.diffuser1 p₁.out

  abbrev a₂ : Step (List Float) Float
  a₂ = lattice_on r.diffuser1 input_diffusion1 n p₂.next p₂.out

  a_does : Does r.diffuser1.line p₂.next n a₁ a₂
  a_does =
      lattice_does r.diffuser1 _ u.diffuser1 p₂.next n (room1 r u p₂.next p_long) m.diffuser1
      (h.diffuser1 ∙ p_does.pushed.other r.diffuser1.line u.diffuser1.ring (inl (before01 r u)) n)
      p₁.out p₂.out p_does.out input_diffusion1

  a_long : length a₂.next ≡ r.places
  a_long = a_does.pushed.long ∙ p_long

  abbrev b₁ : Step (List Float) Float
  b₁ = lattice_step r.diffuser2 input_diffusion1 m.diffuser2 a₁.out

  abbrev b₂ : Step (List Float) Float
  b₂ = lattice_on r.diffuser2 input_diffusion1 n a₂.next a₂.out

  b_does : Does r.diffuser2.line a₂.next n b₁ b₂
  b_does =
      lattice_does r.diffuser2 _ u.diffuser2 a₂.next n (room2 r u a₂.next a_long) m.diffuser2
      (h.diffuser2 ∙ p_does.pushed.other r.diffuser2.line u.diffuser2.ring (inl (before02 r u)) n ∙ a_does.pushed.other r.diffuser2.line u.diffuser2.ring (inl (before12 r u)) n)
      a₁.out a₂.out a_does.out input_diffusion1

  b_long : length b₂.next ≡ r.places
  b_long = b_does.pushed.long ∙ a_long

  abbrev c₁ : Step (List Float) Float
  c₁ = lattice_step r.diffuser3 input_diffusion2 m.diffuser3 b₁.out

  abbrev c₂ : Step (List Float) Float
  c₂ = lattice_on r.diffuser3 input_diffusion2 n b₂.next b₂.out

  c_does : Does r.diffuser3.line b₂.next n c₁ c₂
  c_does =
      lattice_does r.diffuser3 _ u.diffuser3 b₂.next n (room3 r u b₂.next b_long) m.diffuser3
      (h.diffuser3 ∙ p_does.pushed.other r.diffuser3.line u.diffuser3.ring (inl (before03 r u)) n ∙ a_does.pushed.other r.diffuser3.line u.diffuser3.ring (inl (before13 r u)) n ∙ b_does.pushed.other r.diffuser3.line u.diffuser3.ring (inl (before23 r u)) n)
      b₁.out b₂.out b_does.out input_diffusion2

  c_long : length c₂.next ≡ r.places
  c_long = c_does.pushed.long ∙ b_long

  abbrev d₁ : Step (List Float) Float
  d₁ = lattice_step r.diffuser4 input_diffusion2 m.diffuser4 c₁.out

  abbrev d₂ : Step (List Float) Float
  d₂ = lattice_on r.diffuser4 input_diffusion2 n c₂.next c₂.out

  d_does : Does r.diffuser4.line c₂.next n d₁ d₂
  d_does =
      lattice_does r.diffuser4 _ u.diffuser4 c₂.next n (room4 r u c₂.next c_long) m.diffuser4
      (h.diffuser4 ∙ p_does.pushed.other r.diffuser4.line u.diffuser4.ring (inl (before04 r u)) n ∙ a_does.pushed.other r.diffuser4.line u.diffuser4.ring (inl (before14 r u)) n ∙ b_does.pushed.other r.diffuser4.line u.diffuser4.ring (inl (before24 r u)) n ∙ c_does.pushed.other r.diffuser4.line u.diffuser4.ring (inl (before34 r u)) n)
      c₁.out c₂.out c_does.out input_diffusion2

  d_long : length d₂.next ≡ r.places
  d_long = d_does.pushed.long ∙ c_long

  pub input_keeps : InputHolds r (n + 1) (input_step r m x).next (input_on r n s x).next
  unfolding input_step input_on
  input_keeps =
      record {
        predelay = p_does.own ∙ a_does.pushed.other r.predelay.line u.predelay.ring (inr (before01 r u)) (n + 1) ∙ b_does.pushed.other r.predelay.line u.predelay.ring (inr (before02 r u)) (n + 1) ∙ c_does.pushed.other r.predelay.line u.predelay.ring (inr (before03 r u)) (n + 1) ∙ d_does.pushed.other r.predelay.line u.predelay.ring (inr (before04 r u)) (n + 1);
        diffuser1 = a_does.own ∙ b_does.pushed.other r.diffuser1.line u.diffuser1.ring (inr (before12 r u)) (n + 1) ∙ c_does.pushed.other r.diffuser1.line u.diffuser1.ring (inr (before13 r u)) (n + 1) ∙ d_does.pushed.other r.diffuser1.line u.diffuser1.ring (inr (before14 r u)) (n + 1);
        diffuser2 = b_does.own ∙ c_does.pushed.other r.diffuser2.line u.diffuser2.ring (inr (before23 r u)) (n + 1) ∙ d_does.pushed.other r.diffuser2.line u.diffuser2.ring (inr (before24 r u)) (n + 1);
        diffuser3 = c_does.own ∙ d_does.pushed.other r.diffuser3.line u.diffuser3.ring (inr (before34 r u)) (n + 1);
        diffuser4 = d_does.own;
        long = d_long;
      }

  pub input_same : (input_step r m x).out ≡ (input_on r n s x).out
  unfolding input_step input_on
  input_same = d_does.out
