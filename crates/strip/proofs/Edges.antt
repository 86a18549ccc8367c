-- The refusals' edges at 44,100 Hz. Assumes nothing.
use mathlib.Core.Path.{◌≡◌, refl}
use mathlib.Core.Bool.{Bool, true}
use mathlib.Core.List.{List, [], ◌∷◌}
use Prim.Native.Nat.{ℕ, ◌-◌}
use Rattle.std.specs.Prelude.{Ok, Err}
use lib.ListN.{length, replicate}
use lib.Ieee.{Float, of_bits, neg, le, of_int}
use Rattle.casts.specs.Arithmetic.{nought}
use Rattle.ranges.specs.Ranges.{last_position, in_range, all_in_range, rising_from}
use Rattle.rate.specs.Rate.{rate_of}
use Rattle.tape.specs.Tape.{Lists}
use Rattle.strip.specs.declared.Setup.{Setup}
use Rattle.strip.specs.declared.Refusal.{Refusal}
use Rattle.strip.specs.declared.Refusal.TheVariants.{StoreShort}
use Rattle.strip.specs.Refusals.{long_enough, ok_corner, ok_drive, ok_unit, ok_tone, ok_pad, ok_gain, ok_tape, ok_setup, ok_points, ok_kicks, ok_lists, ok_outputs, ok_end, ok_samples}
use Rattle.strip.specs.Kept.{State}
use Rattle.strip.specs.Calls.{first_of, open_grounds, run_grounds, first}
use Rattle.strip.specs.Edges.{plain_setup, no_lists, Edges}

just_long : first_of (open_grounds (rate_of 44100) plain_setup no_lists (replicate (rate_of 44100).samples nought) (replicate (rate_of 44100).counts 0)) ≡ Ok tt
unfolding rate_of first_of long_enough ok_setup ok_tape ok_tone ok_corner ok_drive ok_pad ok_gain ok_unit ok_lists ok_points ok_kicks in_range all_in_range rising_from of_bits of_int le
just_long = refl

open_short : (s : Setup) (l : Lists) (store : List Float) (counts : List ℕ) → length store ≡ 49151 → first_of (open_grounds (rate_of 44100) s l store counts) ≡ Err StoreShort
unfolding rate_of first_of long_enough
open_short s l store counts e = rw e

others_short : (st : State) (own : List (Bool × Refusal)) → length st.store ≡ 49151 → first (rate_of 44100) st own ≡ Err StoreShort
unfolding rate_of first first_of long_enough
others_short st own e = rw e

last_sample : (x : Float) → ok_samples (x ∷ []) ≡ true → first_of (run_grounds (last_position - 1) (x ∷ []) 2 1) ≡ Ok tt
unfolding first_of ok_outputs ok_end
last_sample x e = rw e

pub edges : Edges (rate_of 44100)
unfolding first_of ok_outputs ok_end ok_samples all_in_range in_range of_bits neg le of_int
edges =
    record { numbers = refl; opens = just_long; opening = open_short; others = others_short; passes = refl; above = refl; below = refl; last = last_sample; two = λ x y. refl; none = refl }
