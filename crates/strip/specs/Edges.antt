-- Document 01: "Edges: 49,151 is 1; a sample of 1,024 passes, the next f64 is 7; at position 2^32 − 1 one sample passes, two are 6; an empty run at 2^32 passes."
use Rattle.std.specs.Prelude.{ℕ, ◌-◌, ◌≡◌, Bool, true, false, List, [], ◌∷◌, map, length, replicate, None, Float, Ok, Err}
use Rattle.std.specs.Float.{binary64}
use Rattle.std.specs.Float.Ieee.{of_bits, neg}
use Rattle.casts.specs.Arithmetic.{whole, nought, one}
use Rattle.ranges.specs.Ranges.{last_position}
use Rattle.automation.specs.declared.Tone.TheVariants.{Fixed}
use Rattle.tape.specs.Tape.{Lists}
use Rattle.rate.specs.declared.Rate.{Rate}
use Rattle.strip.specs.declared.Setup.{Setup}
use Rattle.strip.specs.declared.Refusal.{Refusal}
use Rattle.strip.specs.declared.Refusal.TheVariants.{StoreShort, BadSetup, BadList, BadStrip, BadOutput, PastEnd, BadSample, BadControl}
use Rattle.strip.specs.Refusals.{ok_samples, number_of}
use Rattle.strip.specs.Kept.{State}
use Rattle.strip.specs.Calls.{first_of, open_grounds, run_grounds, first}

-- the f64 after 1,024
abbrev pub past : Float
past = of_bits binary64 0x4090_0000_0000_0001

-- a fixed tone and no lists
abbrev pub plain_setup : Setup
plain_setup =
    record {
      tape = record { tone = Fixed (whole 1000) one; pad = None; darkened = false; input = one; output = one; ducked = false };
      daylight = nought;
      rain = nought;
      send = one;
    }

abbrev pub no_lists : Lists
no_lists = record { positions = []; values = []; kicks = [] }

pub record Edges (r : Rate) : Type 0 where
  -- "1.", "2.", "3.", "4.", "5.", "6.", "7.", "8."
  pub numbers : map number_of (StoreShort ∷ BadSetup ∷ BadList ∷ BadStrip ∷ BadOutput ∷ PastEnd ∷ BadSample ∷ BadControl ∷ []) ≡ 1 ∷ 2 ∷ 3 ∷ 4 ∷ 5 ∷ 6 ∷ 7 ∷ 8 ∷ []
  -- stores just long enough pass 1, so that there are strips of which `Demand3` speaks
  pub opens : first_of (open_grounds r plain_setup no_lists (replicate r.samples nought) (replicate r.counts 0)) ≡ Ok tt
  -- "49,151 is 1": of every call, whatever else is wrong
  pub opening : (s : Setup) (l : Lists) (store : List Float) (counts : List ℕ) → length store ≡ 49151 → first_of (open_grounds r s l store counts) ≡ Err StoreShort
  pub others : (st : State) (own : List (Bool × Refusal)) → length st.store ≡ 49151 → first r st own ≡ Err StoreShort
  -- "a sample of 1,024 passes, the next f64 is 7", on either side
  pub passes : first_of (run_grounds 0 (whole 1024 ∷ neg (whole 1024) ∷ []) 4 2) ≡ Ok tt
  pub above : first_of (run_grounds 0 (past ∷ []) 2 1) ≡ Err BadSample
  pub below : first_of (run_grounds 0 (neg past ∷ []) 2 1) ≡ Err BadSample
  -- "at position 2^32 − 1 one sample passes, two are 6"
  pub last : (x : Float) → ok_samples (x ∷ []) ≡ true → first_of (run_grounds (last_position - 1) (x ∷ []) 2 1) ≡ Ok tt
  pub two : (x y : Float) → first_of (run_grounds (last_position - 1) (x ∷ y ∷ []) 4 2) ≡ Err PastEnd
  -- "an empty run at 2^32 passes"
  pub none : first_of (run_grounds last_position [] 0 0) ≡ Ok tt
