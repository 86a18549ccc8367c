-- What is known once the grounds decline nothing. Assumes nothing.
use mathlib.Core.Path.{◌≡◌, refl}
use mathlib.Core.Bool.{Bool, true, false, and-eq-true_iff}
use mathlib.Core.List.{List, [], ◌∷◌, ◌++◌}
use Prim.Native.Nat.{ℕ, ◌+◌, ◌*◌, ◌≤◌}
use lib.ListN.{length}
use lib.Ieee.{Float}
use borrow.Author.Tests.{leb-true, eqb-true}
use Rattle.ranges.specs.Ranges.{most_points, most_kicks, last_position, rising_from}
use Rattle.std.specs.Prelude.{Result, Ok, Err, ⊤}
use Rattle.rate.specs.declared.Rate.{Rate}
use Rattle.rate.specs.Rate.{Sized}
use Rattle.tape.specs.Tape.{Lists}
use Rattle.strip.specs.declared.Setup.{Setup}
use Rattle.strip.specs.declared.Controls.{Controls}
use Rattle.strip.specs.declared.Refusal.{Refusal}
use Rattle.strip.specs.Refusals.{long_enough, ok_unit, ok_setup, ok_points, ok_kicks, ok_lists, ok_outputs, ok_end, ok_controls}
use Rattle.strip.specs.Calls.{first_of, unless, open_grounds, run_grounds, latch_grounds}

no_error : (k : Refusal) → ◌≡◌ {A = Result ⊤ Refusal} (Err k) (Ok tt) → ⊥
no_error k e = cc

-- a test that comes first has passed, and so have the others
pub passed : (b : Bool) (k : Refusal) (gs : List (Bool × Refusal)) → first_of ((b, k) ∷ gs) ≡ Ok tt → (b ≡ true) × (first_of gs ≡ Ok tt)
unfolding first_of
passed true k gs e = (refl, e)
passed false k gs e = absurd (no_error k e)

-- a refusal among the first grounds stands, whatever follows; where none is, what follows decides
pub first_then : (gs own : List (Bool × Refusal)) → first_of (gs ++ own) ≡ unless (first_of gs) (first_of own) (λ k. Err k)
unfolding first_of
first_then [] own = refl
first_then ((true, k) ∷ gs) own = first_then gs own
first_then ((false, k) ∷ gs) own = refl

pub sized_is : (r : Rate) (store : List Float) (counts : List ℕ) → long_enough r store counts ≡ true → Sized r store counts
unfolding long_enough
sized_is r store counts e =
    let a = (and-eq-true_iff _ _).0 e in
    record { long = leb-true _ _ a.0; wide = leb-true _ _ a.1 }

-- ---- open: 1, 2 and 3

pub record Opens (r : Rate) (s : Setup) (l : Lists) (store : List Float) (counts : List ℕ) : Type 0 where
  pub sized : Sized r store counts
  pub ranged : ok_setup s ≡ true
  pub pointed : ok_points l.positions l.values ≡ true
  pub few : length l.positions ≤ most_points
  pub paired : length l.positions ≡ length l.values
  pub kicks : length l.kicks ≤ most_kicks
  pub risen : rising_from 0 l.kicks ≡ true

pub opens : (r : Rate) (s : Setup) (l : Lists) (store : List Float) (counts : List ℕ) → first_of (open_grounds r s l store counts) ≡ Ok tt → Opens r s l store counts
unfolding ok_lists ok_kicks ok_points
opens r s l store counts e =
    let a = passed _ _ _ e in
    let b = passed _ _ _ a.1 in
    let c = passed _ _ _ b.1 in
    let p = (and-eq-true_iff _ _).0 c.0 in
    let q = (and-eq-true_iff _ _).0 p.0 in
    let v = (and-eq-true_iff _ _).0 q.1 in
    let k = (and-eq-true_iff _ _).0 p.1 in
    record {
      sized = sized_is r store counts a.0;
      ranged = b.0;
      pointed = p.0;
      few = leb-true _ _ q.0;
      paired = eqb-true _ _ v.0;
      kicks = leb-true _ _ k.0;
      risen = k.1;
    }

-- ---- run: 5 and 6

pub record RunsOn (n : ℕ) (xs : List Float) (f g : ℕ) : Type 0 where
  pub frames : f ≡ 2 * length xs
  pub gains : g ≡ length xs
  pub end : n + length xs ≤ last_position

pub runs_on : (n : ℕ) (xs : List Float) (frames gains : ℕ) → first_of (run_grounds n xs frames gains) ≡ Ok tt → RunsOn n xs frames gains
unfolding ok_outputs ok_end
runs_on n xs frames gains e =
    let a = passed _ _ _ e in
    let b = passed _ _ _ a.1 in
    let o = (and-eq-true_iff _ _).0 a.0 in
    record { frames = eqb-true _ _ o.0; gains = eqb-true _ _ o.1; end = leb-true _ _ b.0 }

-- ---- latch: 8

pub latch_room : (c : Controls) → first_of (latch_grounds c) ≡ Ok tt → (c.grading ≤ last_position) × (c.darkening ≤ last_position)
unfolding ok_controls
latch_room c e =
    let a = passed _ _ _ e in
    let b = (and-eq-true_iff (ok_unit c.daylight) _).0 a.0 in
    let d = (and-eq-true_iff (ok_unit c.rain) _).0 b.1 in
    let f = (and-eq-true_iff _ _).0 d.1 in
    (leb-true _ _ f.0, leb-true _ _ f.1)
