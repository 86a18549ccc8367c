-- What a list of calls is played with, and a list of events for the lane of the one-sample machine alone. Definitions only.
use Rattle.std.specs.Prelude.{ℕ, Bool, List, map, replicate, Float}
use Rattle.std.specs.Float.{binary32, binary64}
use Rattle.std.specs.Float.Ieee.{of_bits}
use Rattle.casts.specs.Arithmetic.{◌⊗◌, nought}
use Rattle.tape.specs.Tape.{Lists}
use Rattle.strip.specs.declared.Setup.{Setup}
use Rattle.strip.specs.Machine.{Event, sample, Sent}
use Rattle.strip.specs.Promise.{Call, Answer}

abbrev pub double : ℕ → Float
double bits = of_bits binary64 bits

abbrev pub single : ℕ → Float
single bits = of_bits binary32 bits

-- outputs as they are lent
abbrev pub room : ℕ → List Float
room k = replicate k nought

abbrev pub counts : ℕ → List ℕ
counts k = replicate k 0

-- calls, and what the Rust answered
pub record Played : Type 0 where
  pub rate : ℕ
  pub setup : Setup
  pub lists : Lists
  pub calls : List Call
  pub answers : List Answer

-- ---- the lane by itself

abbrev pub sampled : Bool → List Float → List Event
sampled d xs = map (λ x. sample x d) xs

-- "The result y goes to the plate as y·send": what a lane of this setup gives the bus with its samples
abbrev pub given : Setup → List Float → List Sent
given s ys = map (λ y. record { dry = y; sent = y ⊗ s.send }) ys

-- events, and what the lane gave for the samples among them
pub record Sounded : Type 0 where
  pub rate : ℕ
  pub setup : Setup
  pub lists : Lists
  pub events : List Event
  pub samples : List Float
