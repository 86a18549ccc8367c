-- The one-sample machine's lane and bus apart, each computed in stretches of a list of calls: together they answer as strip's `machine`. Assumes nothing.
use mathlib.Core.Path.{◌≡◌, refl, sym, ap, ◌∙◌}
use mathlib.Core.Bool.{Bool, ◌&&◌}
use Prim.Native.Nat.{ℕ, ◌+◌}
use mathlib.Core.List.{List, [], ◌∷◌, ◌++◌, append_assoc}
use Rattle.std.specs.Prelude.{Result, Ok, Err, ⊤}
use Rattle.stage.specs.Stage.{Step}
use Rattle.stage.specs.System.{through}
use Rattle.rate.specs.declared.Rate.{Rate}
use Rattle.tape.specs.Tape.{Lists}
use Rattle.master.specs.declared.Heard.{Heard}
use Rattle.master.specs.Kept.{frames_out, counts_out}
use Rattle.strip.specs.declared.Setup.{Setup}
use Rattle.strip.specs.declared.Refusal.{Refusal}
use Rattle.strip.specs.Refusals.{number_of}
use Rattle.strip.specs.Calls.{unless}
use Rattle.strip.specs.Machine.{LaneMachine, BusMachine, Machine, fresh_lane, fresh_bus, fresh, Sent, lane_step, bus_step, stepped, lane_latched, latched, lane_resting, bus_resting, resting, Event, sample, latch, fed, fed_all, delivers, heard_from, sends, sent_from}
use Rattle.strip.specs.Promise.{Call, run, move, ask, Answer, ran, moved, rests, declined, refusal, events_of, feeds, accepted, says, machine_system}

-- ---- steps over a list: the state after it and all that they gave, each step computed once

unfoldable pub rolled : {S X Y : Type 0} → (S → X → Step S (List Y)) → S → List X → Step S (List Y)
rolled f s [] = record { next = s; out = [] }
rolled f s (x ∷ xs) =
    let o = f s x in
    let t = rolled f o.next xs in
    record { next = t.next; out = o.out ++ t.out }

pub record Stretch {S X Y : Type 0} (f : S → X → Step S (List Y)) (s : S) (xs : List X) (t : S) (ys : List Y) : Type 0 where
  pub rolls : rolled f s xs ≡ record { next = t; out = ys }

rolled_append : {S X Y : Type 0} (f : S → X → Step S (List Y)) (s : S) (xs zs : List X)
    → rolled f s (xs ++ zs) ≡ (let t = rolled f s xs in let u = rolled f t.next zs in record { next = u.next; out = t.out ++ u.out })
unfolding rolled
rolled_append f s [] zs = refl
rolled_append f s (x ∷ xs) zs = rw (rolled_append f (f s x).next xs zs, append_assoc)

-- a stretch and then another
infixl 60 ◌&◌
pub ◌&◌ : {S X Y : Type 0} {f : S → X → Step S (List Y)} {s t u : S} {xs zs : List X} {ys ws : List Y} → Stretch f s xs t ys → Stretch f t zs u ws → Stretch f s (xs ++ zs) u (ys ++ ws)
◌&◌ {f = f} {s = s} {xs = xs} {zs = zs} a b = record { rolls = rolled_append f s xs zs ∙ rw (a.rolls, b.rolls) }

-- a lane or a bus, and the position at which it stands
pub record At (S : Type 0) : Type 0 where
  pub position : ℕ
  pub stands : S

abbrev pub at : {S : Type 0} → ℕ → S → At S
at n s = record { position = n; stands = s }

-- ---- the lane

-- what a call gets of it: an accepted run what it gives the bus, a question whether the lane is at rest
pub data Dry : Type 0 where
  sounds : List Sent → Dry
  moves : Dry
  asks : Bool → Dry
  refuses : ℕ → Dry

unfoldable pub lane_fed : Rate → At LaneMachine → Event → Step (At LaneMachine) (List Sent)
lane_fed r a (sample x d) =
    let y = lane_step r d a.position a.stands x in
    record { next = at (a.position + 1) y.next; out = y.out ∷ [] }
lane_fed r a (latch c) = record { next = at a.position (lane_latched a.position a.stands c); out = [] }

unfoldable pub told : At LaneMachine → Call → List Sent → Dry
told a (run xs d frames gains) ys = sounds ys
told a (move c) ys = moves
told a ask ys = asks (lane_resting a.stands)

unfoldable pub lane_takes : Rate → At LaneMachine → Call → Step (At LaneMachine) (List Dry)
lane_takes r a c = let o = rolled (lane_fed r) a (events_of c) in record { next = o.next; out = told a c o.out ∷ [] }

unfoldable pub lane_call : Rate → At LaneMachine → Call → Step (At LaneMachine) (List Dry)
lane_call r a c = unless (refusal a.position c) (lane_takes r a c) (λ k. record { next = a; out = refuses (number_of k) ∷ [] })

-- ---- the bus

unfoldable pub bus_fed : Rate → At BusMachine → Sent → Step (At BusMachine) (List Heard)
bus_fed r b y =
    let h = bus_step r b.position b.stands y in
    record { next = at (b.position + 1) h.next; out = h.out ∷ [] }

unfoldable pub bus_call : Rate → At BusMachine → Dry → Step (At BusMachine) (List Answer)
bus_call r b (sounds ys) = let o = rolled (bus_fed r) b ys in record { next = o.next; out = ran (frames_out o.out) (counts_out o.out) ∷ [] }
bus_call r b moves = record { next = b; out = moved ∷ [] }
bus_call r b (asks still) = record { next = b; out = rests (still && bus_resting b.stands) ∷ [] }
bus_call r b (refuses k) = record { next = b; out = declined k ∷ [] }

-- ---- the two together are the machine

module _ (r : Rate) where
  abbrev both : At LaneMachine → BusMachine → Machine
  both a b = record { position = a.position; lane = a.stands; bus = b }

  -- what the lane gives for events, and the bus for that
  abbrev front : At LaneMachine → List Event → Step (At LaneMachine) (List Sent)
  front a es = rolled (lane_fed r) a es

  abbrev back : At LaneMachine → BusMachine → List Event → Step (At BusMachine) (List Heard)
  back a b es = rolled (bus_fed r) (at a.position b) (front a es).out

  -- the bus after an event that is first
  abbrev onward : At LaneMachine → BusMachine → Event → BusMachine
  onward a b e = (rolled (bus_fed r) (at a.position b) (lane_fed r a e).out).next.stands

  sent_apart : (es : List Event) (a : At LaneMachine) (b : BusMachine) → sent_from r (both a b) es ≡ (front a es).out
  unfolding sent_from sends fed stepped latched rolled lane_fed
  sent_apart [] a b = refl
  sent_apart (sample x d ∷ es) a b = rw (sent_apart es (lane_fed r a (sample x d)).next _)
  sent_apart (latch c ∷ es) a b = sent_apart es (lane_fed r a (latch c)).next b

  heard_apart : (es : List Event) (a : At LaneMachine) (b : BusMachine) → heard_from r (both a b) es ≡ (back a b es).out
  unfolding heard_from delivers fed stepped latched rolled lane_fed bus_fed
  heard_apart [] a b = refl
  heard_apart (sample x d ∷ es) a b =
      let y = lane_fed r a (sample x d) in
      ap (λ (t : List Heard). (rolled (bus_fed r) (at a.position b) y.out).out ++ t) (heard_apart es y.next (onward a b (sample x d)))
  heard_apart (latch c ∷ es) a b = heard_apart es (lane_fed r a (latch c)).next b

  fed_apart : (es : List Event) (a : At LaneMachine) (b : BusMachine) → fed_all r (both a b) es ≡ both (front a es).next (back a b es).next.stands
  unfolding fed_all fed stepped latched rolled lane_fed bus_fed
  fed_apart [] a b = refl
  fed_apart (sample x d ∷ es) a b = fed_apart es (lane_fed r a (sample x d)).next (onward a b (sample x d))
  fed_apart (latch c ∷ es) a b = fed_apart es (lane_fed r a (latch c)).next b

  same_position : (es : List Event) (a : At LaneMachine) (b : BusMachine) → (back a b es).next.position ≡ (front a es).next.position
  unfolding rolled lane_fed bus_fed
  same_position [] a b = refl
  same_position (sample x d ∷ es) a b = same_position es (lane_fed r a (sample x d)).next (onward a b (sample x d))
  same_position (latch c ∷ es) a b = same_position es (lane_fed r a (latch c)).next b

  -- what the bus makes of what a call gets of the lane
  abbrev behind : At LaneMachine → BusMachine → Call → Step (At BusMachine) (List Answer)
  behind a b c = rolled (bus_call r) (at a.position b) (lane_call r a c).out

  -- a call: its answer, and where it leaves the machine
  record Same (a : At LaneMachine) (b : BusMachine) (c : Call) : Type 0 where
    answer : says r (both a b) c ∷ [] ≡ (behind a b c).out
    next : fed_all r (both a b) (feeds a.position c) ≡ both (lane_call r a c).next (behind a b c).next.stands
    position : (behind a b c).next.position ≡ (lane_call r a c).next.position

  by_refusal : (a : At LaneMachine) (b : BusMachine) (c : Call) (q : Result ⊤ Refusal) → refusal a.position c ≡ q → Same a b c
  unfolding says feeds accepted events_of fed_all resting rolled lane_fed lane_call lane_takes told bus_call
  by_refusal a b (run xs d frames gains) (Ok t) e = let es = events_of (run xs d frames gains) in record { answer = rw (e, heard_apart es a b); next = rw e (fed_apart es a b); position = rw e (same_position es a b) }
  by_refusal a b (move c) (Ok t) e = record { answer = rw e; next = rw e (fed_apart (latch c ∷ []) a b); position = rw e }
  by_refusal a b ask (Ok t) e = record { answer = rw e; next = rw e; position = rw e }
  by_refusal a b c (Err k) e = record { answer = rw e; next = rw e; position = rw e }

  apart : (cs : List Call) (a : At LaneMachine) (b : BusMachine) → through (machine_system r) (both a b) cs ≡ (rolled (bus_call r) (at a.position b) (rolled (lane_call r) a cs).out).out
  unfolding through rolled
  apart [] a b = refl
  apart (c ∷ cs) a b =
      let o = by_refusal a b c (refusal a.position c) refl in
      let m = both a b in
      let f = lane_call r a c in
      let w = (behind a b c).next in
      let rest = (rolled (lane_call r) f.next cs).out in
      ap (λ (t : Machine). says r m c ∷ through (machine_system r) t cs) o.next
      ∙ ap (λ (t : List Answer). says r m c ∷ t) (apart cs f.next w.stands)
      ∙ ap (λ (n : ℕ). says r m c ∷ (rolled (bus_call r) (at n w.stands) rest).out) (sym o.position)
      ∙ ap (λ (t : List Answer). t ++ (rolled (bus_call r) w rest).out) o.answer
      ∙ sym (ap (λ (t : Step (At BusMachine) (List Answer)). t.out) (rolled_append (bus_call r) (at a.position b) f.out rest))

  -- ---- from the fresh machine on

  module _ (s : Setup) (l : Lists) where
    pub sent_by : {es : List Event} {a : At LaneMachine} {ys : List Sent} → Stretch (lane_fed r) (at 0 (fresh_lane r s l)) es a ys → sent_from r (fresh r s l) es ≡ ys
    unfolding fresh
    sent_by {es = es} e = sent_apart es (at 0 (fresh_lane r s l)) (fresh_bus r) ∙ ap (λ (t : Step (At LaneMachine) (List Sent)). t.out) e.rolls

    pub answered_by : {cs : List Call} {a : At LaneMachine} {ds : List Dry}
        → Stretch (lane_call r) (at 0 (fresh_lane r s l)) cs a ds
        → through (machine_system r) (fresh r s l) cs ≡ (rolled (bus_call r) (at 0 (fresh_bus r)) ds).out
    unfolding fresh
    answered_by {cs = cs} e = apart cs (at 0 (fresh_lane r s l)) (fresh_bus r) ∙ ap (λ (t : Step (At LaneMachine) (List Dry)). (rolled (bus_call r) (at 0 (fresh_bus r)) t.out).out) e.rolls
