-- A fresh plate on a part of zeros, and a plate at rest. Assumes nothing.
use Rattle.std.proofs.Common.{◌≡◌, ℕ, ◌+◌, ◌≤◌, Bool, true, ◌&&◌, List, length, take, drop, replicate, sym, refl, ap, ◌∙◌, arith, take-append-drop, take_all, take_at, take-add, drop_at}
use lib.ListN.{length-replicate, replicate-append-replicate}
use lib.Ieee.{Float, eq, of_bits}
use Rattle.casts.specs.Arithmetic.{nought}
use Rattle.onepole.specs.OnePole.{one_pole_at, one_pole_at_rest}
use Rattle.biquad.specs.Section.{section_at, section_at_rest}
use Rattle.delay.specs.Delay.{line_of, all_zero}
use Rattle.delay.proofs.Rest.{zero_append, line_rest, line_fresh, zero_fresh}
use Rattle.rate.specs.declared.LineRate.{LineRate}
use Rattle.rate.specs.declared.InputRate.{InputRate}
use Rattle.rate.specs.declared.HalfRate.{HalfRate}
use Rattle.rate.specs.declared.PlateRate.{PlateRate}
use Rattle.rate.specs.Plate.{end_of, LineUsable, InputUsable, HalfUsable, PlateUsable}
use Rattle.plate.specs.Machine.{fresh_half, fresh_plate, InputMachine, input_at_rest, HalfMachine, half_at_rest, PlateMachine, at_rest}
use Rattle.rate.specs.Stores.{plate_samples}
use Rattle.plate.specs.Plate.{HalfIn, half_in, PlateIn, plate_on, fresh_on, quiet_of, at_rest_on}
use Rattle.plate.proofs.InputHeld.{InputHolds, room0, room1, room2, room3, room4}
use Rattle.plate.proofs.HalfHeld as half
use Rattle.plate.proofs.HalfHeld.{HalfHolds}
use Rattle.plate.proofs.Theorem.{PlateHolds}

-- ---- fresh

half_fresh : (r : HalfRate) → HalfUsable r → (n : ℕ) (pole : Float) → HalfHolds r n (fresh_half pole r) (half_in (one_pole_at pole) (replicate r.places nought))
unfolding fresh_half
half_fresh r u n pole =
    let e : length (replicate r.places nought) ≡ r.places = length-replicate r.places nought in
    record {
      diffuser1 = sym (line_fresh r.diffuser1.line u.diffuser1.ring r.places (rw e at (half.room0 r u (replicate r.places nought) e)) n);
      delay1 = sym (line_fresh r.delay1.line u.delay1.ring r.places (rw e at (half.room1 r u (replicate r.places nought) e)) n);
      diffuser2 = sym (line_fresh r.diffuser2.line u.diffuser2.ring r.places (rw e at (half.room2 r u (replicate r.places nought) e)) n);
      delay2 = sym (line_fresh r.delay2.line u.delay2.ring r.places (rw e at (half.room3 r u (replicate r.places nought) e)) n);
      damping = refl;
      long = e;
    }

first_zeros : (a b : ℕ) → take a (replicate (a + b) nought) ≡ replicate a nought
first_zeros a b = rw (← replicate-append-replicate a b nought) (take_at (replicate a nought) (replicate b nought) a (length-replicate a nought))

last_zeros : (a b : ℕ) → drop a (replicate (a + b) nought) ≡ replicate b nought
last_zeros a b = rw (← replicate-append-replicate a b nought) (drop_at (replicate a nought) (replicate b nought) a (length-replicate a nought))

pub plate_fresh : (r : PlateRate) → PlateUsable r → (n : ℕ) → PlateHolds r n (fresh_plate r) (plate_on (fresh_on r) (replicate (plate_samples r) nought))
unfolding fresh_plate fresh_on
plate_fresh r u n =
    let k : ℕ = r.input.places in
    let v = u.input in
    let e : length (replicate k nought) ≡ k = length-replicate k nought in
    record {
      input =
          rw (first_zeros k (r.left.places + r.right.places))
          (record {
            predelay = sym (line_fresh r.input.predelay.line v.predelay.ring k (rw e at (room0 r.input v (replicate k nought) e)) n);
            diffuser1 = sym (line_fresh r.input.diffuser1.line v.diffuser1.ring k (rw e at (room1 r.input v (replicate k nought) e)) n);
            diffuser2 = sym (line_fresh r.input.diffuser2.line v.diffuser2.ring k (rw e at (room2 r.input v (replicate k nought) e)) n);
            diffuser3 = sym (line_fresh r.input.diffuser3.line v.diffuser3.ring k (rw e at (room3 r.input v (replicate k nought) e)) n);
            diffuser4 = sym (line_fresh r.input.diffuser4.line v.diffuser4.ring k (rw e at (room4 r.input v (replicate k nought) e)) n);
            long = e;
          });
      tank =
          rw (last_zeros k (r.left.places + r.right.places))
          (record {
            left = rw (first_zeros r.left.places r.right.places) (half_fresh r.left u.left n r.damping);
            right = rw (last_zeros r.left.places r.right.places) (half_fresh r.right u.right n r.damping);
          });
      left = refl;
      right = refl;
      long = length-replicate (plate_samples r) nought;
    }

-- ---- at rest

-- the places up to a line's end: those before it, and its own
upto : (l : LineRate) (at : ℕ) → LineUsable l at → (s : List Float) (n : ℕ) → l.line.at + l.line.ring ≤ length s → all_zero (take (end_of l) s) ≡ (all_zero (take at s) && all_zero (line_of l.line s n))
upto l at u s n room =
    ap all_zero (take-add l.line.at l.line.ring s)
    ∙ zero_append (take l.line.at s) (take l.line.ring (drop l.line.at s))
    ∙ rw (← line_rest l.line u.ring s n room, u.placed)

input_rest : (r : InputRate) → InputUsable r → (n : ℕ) (m : InputMachine) (s : List Float) → InputHolds r n m s → input_at_rest m ≡ all_zero s
unfolding input_at_rest all_zero
input_rest r u n m s h =
    let e = h.long in
    sym (ap all_zero (sym (take_all r.places s (omega arith)) ∙ ap (λ (k : ℕ). take k s) u.places)
    ∙ upto r.diffuser4 _ u.diffuser4 s n (room4 r u s e)
    ∙ rw (upto r.diffuser3 _ u.diffuser3 s n (room3 r u s e))
    (rw (upto r.diffuser2 _ u.diffuser2 s n (room2 r u s e))
    (rw (upto r.diffuser1 _ u.diffuser1 s n (room1 r u s e))
    (rw (upto r.predelay _ u.predelay s n (room0 r u s e)) (rw (h.predelay, h.diffuser1, h.diffuser2, h.diffuser3, h.diffuser4))))))

half_rest : (r : HalfRate) → HalfUsable r → (n : ℕ) (m : HalfMachine) (s : HalfIn) → HalfHolds r n m s → half_at_rest m ≡ all_zero s.part
unfolding half_at_rest all_zero
half_rest r u n m s h =
    let e = h.long in
    sym (ap all_zero (sym (take_all r.places s.part (omega arith)) ∙ ap (λ (k : ℕ). take k s.part) u.places)
    ∙ upto r.delay2 _ u.delay2 s.part n (half.room3 r u s.part e)
    ∙ rw (upto r.diffuser2 _ u.diffuser2 s.part n (half.room2 r u s.part e))
    (rw (upto r.delay1 _ u.delay1 s.part n (half.room1 r u s.part e))
    (rw (upto r.diffuser1 _ u.diffuser1 s.part n (half.room0 r u s.part e)) (rw (h.diffuser1, h.delay1, h.diffuser2, h.delay2)))))

two : (k : ℕ) (s : List Float) → all_zero s ≡ (all_zero (take k s) && all_zero (drop k s))
two k s = ap all_zero (sym (take-append-drop k s)) ∙ zero_append (take k s) (drop k s)

pub plate_rest : (r : PlateRate) → PlateUsable r → (n : ℕ) (m : PlateMachine) (s : PlateIn) → PlateHolds r n m s → at_rest m ≡ at_rest_on s
unfolding at_rest at_rest_on quiet_of
plate_rest r u n m s h =
    let k : ℕ = r.input.places in
    let l : ℕ = r.left.places in
    let t : List Float = drop k s.part in
    let p : (input_at_rest m.input && (half_at_rest m.tank.left && half_at_rest m.tank.right)) ≡ all_zero s.part =
    rw (input_rest r.input u.input n m.input _ h.input, half_rest r.left u.left n m.tank.left _ h.tank.left, half_rest r.right u.right n m.tank.right _ h.tank.right)
    (sym (two k s.part ∙ ap (λ (b : Bool). all_zero (take k s.part) && b) (two l t))) in
    rw (p, h.tank.left.damping, h.tank.right.damping, h.left, h.right)

pub plate_fresh_rests : (r : PlateRate) → at_rest (fresh_plate r) ≡ true
unfolding at_rest input_at_rest half_at_rest fresh_plate fresh_half one_pole_at one_pole_at_rest section_at section_at_rest eq of_bits
plate_fresh_rests r = simp zero_fresh
