-- A line of the plate: what the machine does to its history is what the part's step does to its ring, and no other line sees it. Assumes nothing.
use Rattle.std.proofs.Common.{◌≡◌, ℕ, ◌+◌, ◌-◌, ◌<◌, ◌≤◌, List, length, sym, arith}
use lib.Ieee.{Float, to_unsigned}
use Rattle.stage.specs.Stage.{Step}
use Rattle.delay.specs.declared.DelayLine.{DelayLine}
use Rattle.delay.specs.Delay.{line_push, line_of, push_of, Usable}
use Rattle.delay.proofs.Line.{Apart, push_length, line_push_lem, line_push_other, line_at_lem, line_tap_lem}
use Rattle.rate.specs.declared.LineRate.{LineRate}
use Rattle.rate.specs.Plate.{LineUsable}
use Rattle.allpass.specs.Allpass.{lattice_from, lattice_step, stretched_step, delay_step}
use Rattle.allpass.specs.Allpass.{lattice_from_on, lattice_on, stretched_at, delay_on}

-- after a push into l, every other line is as it was
pub record Pushed (l : DelayLine) (s s' : List Float) : Type 0 where
  pub other : (m : DelayLine) → Usable m → Apart l m → (k : ℕ) → line_of m s k ≡ line_of m s' k
  pub long : length s' ≡ length s

-- a is the machine's step of the line, b the part's
pub record Does (l : DelayLine) (s : List Float) (n : ℕ) (a b : Step (List Float) Float) : Type 0 where
  pub out : a.out ≡ b.out
  pub own : a.next ≡ line_of l b.next (n + 1)
  pub pushed : Pushed l s b.next

pub push_pushed : (l : DelayLine) → Usable l → (s : List Float) (n : ℕ) (x : Float) → Pushed l s (line_push l s n x)
push_pushed l u s n x = record { other = λ m v d k. sym (line_push_other m v s k l n x u d); long = push_length l s n x }

module _ (l : LineRate) (at : ℕ) (u : LineUsable l at) (s : List Float) (n : ℕ) (room : l.line.at + l.line.ring ≤ length s) (line : List Float) (h : line ≡ line_of l.line s n) (x y : Float) (same : x ≡ y) where
  from_does : (g d e : Float) → d ≡ e → Does l.line s n (lattice_from l g d line x) (lattice_from_on l g e n s y)
  unfolding lattice_from lattice_from_on
  from_does g d e q =
      record {
        out = rw (q, same);
        own = rw (q, same, h) (sym (line_push_lem l.line u.ring s n _ room));
        pushed = push_pushed l.line u.ring s n _;
      }

  pub lattice_does : (g : Float) → Does l.line s n (lattice_step l g line x) (lattice_on l g n s y)
  unfolding lattice_step lattice_on
  lattice_does g =
      let k : l.delay - 1 < l.line.ring = omega (arith, u.within) in
      from_does g _ _ (rw h (line_at_lem l.line u.ring s n (l.delay - 1) k))

  pub stretched_does : (reach stretch g : Float) → to_unsigned 64 reach + 1 < l.line.ring → Does l.line s n (stretched_step l reach stretch g line x) (lattice_from_on l g (stretched_at l reach stretch n s) n s y)
  unfolding stretched_step stretched_at
  stretched_does reach stretch g k = from_does g _ _ (rw h (line_tap_lem l.line u.ring s n reach _ k))

  pub delay_does : Does l.line s n (delay_step l line x) (delay_on l n s y)
  unfolding delay_step delay_on
  delay_does =
      let e : push_of l.line.ring line x ≡ line_of l.line (line_push l.line s n y) (n + 1) = rw (h, same) (sym (line_push_lem l.line u.ring s n y room)) in
      record {
        out = rw e (line_at_lem l.line u.ring (line_push l.line s n y) (n + 1) l.delay u.within);
        own = e;
        pushed = push_pushed l.line u.ring s n y;
      }
