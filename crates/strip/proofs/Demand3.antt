-- Demand 3: the claim about every list of calls (specs/Promise.antt). Assumes nothing.
use mathlib.Core.Path.{◌≡◌, refl, ap, ◌∙◌, subst⁻¹}
use Prim.Native.Nat.{ℕ, ◌*◌, ◌<◌, ◌≤◌, suc}
use mathlib.Core.List.{List, [], ◌∷◌, ◌++◌}
use lib.ListN.{length, get_or}
use Rattle.casts.specs.Step.{step_of}
use Rattle.stage.specs.Stage.{outs}
use Rattle.stage.specs.System.{through}
use Rattle.stream.specs.declared.Frame.{Frame}
use Rattle.rate.specs.declared.Rate.{Rate}
use Rattle.rate.specs.Rate.{rate_of, RateUsable}
use Rattle.rate.proofs.Rates.{usable_44100}
use Rattle.tape.specs.Tape.{Lists}
use Rattle.master.specs.declared.Heard.{Heard}
use Rattle.master.specs.Kept.{counts_out}
use Rattle.strip.specs.declared.Setup.{Setup}
use Rattle.strip.specs.Machine.{Machine, Event, sample, latch, fresh, stepped, latched, mixed_step, bus_step, fed, delivers, heard_from, sends, sent_from}
use Rattle.strip.specs.Promise.{Call, Answer, machine_system, joined_frames, joined_counts, joined_events, mixes, mixed_from, delivered_need, Joined, JoinedAt, Demand3}
use Rattle.strip.proofs.Joined.{answered, expected_frames, expected_counts}
use Rattle.strip.proofs.BusRelates.{bus_bounded}

-- what the machine delivers is what its bus gives for what the lane sends
pub heard_are : (r : Rate) (es : List Event) (m : Machine) → heard_from r m es ≡ outs (bus_step r) m.position m.bus (sent_from r m es)
unfolding heard_from sent_from outs delivers sends fed stepped latched
heard_are r [] m = refl
heard_are r (sample x d ∷ es) m = ap (λ (l : List Heard). (stepped r m x d).out ∷ l) (heard_are r es (stepped r m x d).next)
heard_are r (latch c ∷ es) m = heard_are r es (latched m c)

-- and its mixed frames are the bus's of the same
pub mixed_are : (r : Rate) (es : List Event) (m : Machine) → mixed_from r m es ≡ outs (mixed_step r.plate) m.position m.bus.plate (sent_from r m es)
unfolding mixed_from sent_from outs mixes sends fed stepped latched bus_step
mixed_are r [] m = refl
mixed_are r (sample x d ∷ es) m = ap (λ (l : List Frame). mixes r m (sample x d) ++ l) (mixed_are r es (stepped r m x d).next)
mixed_are r (latch c ∷ es) m = mixed_are r es (latched m c)

-- the gain bound of every list of samples and latches: the bus's, of what is sent
bounded : (r : Rate) → RateUsable r → (s : Setup) (l : Lists) (es : List Event) (i : ℕ) → i < length (counts_out (heard_from r (fresh r s l) es)) → r.ceiling.ahead ≤ i
    → get_or (counts_out (heard_from r (fresh r s l) es)) i 0 ≤ suc r.ceiling.ahead * step_of (delivered_need r (mixed_from r (fresh r s l) es) i)
unfolding fresh
bounded r u s l es = rw (heard_are r es (fresh r s l), mixed_are r es (fresh r s l)) (bus_bounded r u (sent_from r (fresh r s l) es))

fresh_position : (r : Rate) (s : Setup) (l : Lists) → (fresh r s l).position ≡ 0
unfolding fresh
fresh_position r s l = refl

-- answers that are the machine's hold all that is claimed of them
pub joined_of : (r : Rate) → RateUsable r → (s : Setup) (l : Lists) (cs : List Call) (answers : List Answer) → answers ≡ through (machine_system r) (fresh r s l) cs → Joined r s l cs answers
joined_of r u s l cs answers e =
    record {
      machine = e;
      frames = ap joined_frames e ∙ expected_frames r cs (fresh r s l) 0 (fresh_position r s l);
      counts = counts;
      bound =
          subst⁻¹
          (λ (c : List ℕ). (i : ℕ) → i < length c → r.ceiling.ahead ≤ i → get_or c i 0 ≤ suc r.ceiling.ahead * step_of (delivered_need r (mixed_from r (fresh r s l) (joined_events 0 cs)) i))
          counts
          (bounded r u s l (joined_events 0 cs));
    }
  where
    counts : joined_counts answers ≡ counts_out (heard_from r (fresh r s l) (joined_events 0 cs))
    counts = ap joined_counts e ∙ expected_counts r cs (fresh r s l) 0 (fresh_position r s l)

pub joined : (r : Rate) → RateUsable r → JoinedAt r
unfolding JoinedAt
joined r u s l store counts t e cs = joined_of r u s l cs _ (answered r u s l store counts t e cs)

-- DEMAND 3
pub demand3 : Demand3
demand3 = record { joined = joined (rate_of 44100) usable_44100 }
