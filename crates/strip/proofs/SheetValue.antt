-- The sheet value of every list of calls (specs/SheetValue.antt): a corollary of the ceiling's. Assumes nothing.
use mathlib.Core.Path.{◌≡◌, sym, ap, ◌∙◌, subst⁻¹}
use Prim.Native.Nat.{ℕ}
use mathlib.Core.List.{List, map}
use lib.ListN.{take}
use Rattle.stage.specs.Stage.{outs, All}
use Rattle.stage.specs.System.{through}
use Rattle.stage.proofs.Laws.{outs_take, outs_mapped}
use Rattle.rate.specs.declared.Rate.{Rate}
use Rattle.rate.specs.Rate.{rate_of, RateUsable}
use Rattle.rate.specs.Ceiling.{SheetValueUsable}
use Rattle.rate.proofs.Rates.{usable_44100, sheet_value_usable_44100}
use Rattle.tape.specs.Tape.{Lists}
use Rattle.master.specs.Ceiling.{fresh_machine, multiplied_step, delivered, ceiling_step}
use Rattle.master.specs.Kept.{frames_out, counts_out}
use Rattle.master.specs.SheetValue.{FrameBound}
use Rattle.master.proofs.SheetValue.{sheet_value_at}
use Rattle.strip.specs.declared.Setup.{Setup}
use Rattle.strip.specs.Machine.{fresh_bus, fresh, heard_from, sent_from}
use Rattle.strip.specs.Promise.{Call, Answer, machine_system, joined_events, mixed_from}
use Rattle.strip.specs.SheetValue.{joined_mixed, joined_multiplied, SheetValueOf, JoinedSheetValueAt, JoinedSheetValue}
use Rattle.strip.proofs.Joined.{answered}
use Rattle.strip.proofs.BusRelates.{bus_heard}
use Rattle.strip.proofs.Demand3.{heard_are, mixed_are, joined_of}

-- what the machine delivers is these sides, narrowed and clamped
heard_delivered : (r : Rate) (s : Setup) (l : Lists) (cs : List Call) → heard_from r (fresh r s l) (joined_events 0 cs) ≡ map (delivered r.ceiling) (joined_multiplied r s l cs)
unfolding joined_multiplied joined_mixed fresh fresh_bus ceiling_step
heard_delivered r s l cs =
    heard_are r (joined_events 0 cs) (fresh r s l)
    ∙ bus_heard r (sent_from r (fresh r s l) (joined_events 0 cs)) 0 (fresh_bus r)
    ∙ ap (outs (ceiling_step r.ceiling) 0 fresh_machine) (sym (mixed_are r (joined_events 0 cs) (fresh r s l)))
    ∙ outs_mapped (multiplied_step r.ceiling) (delivered r.ceiling) 0 fresh_machine (mixed_from r (fresh r s l) (joined_events 0 cs))

-- answers that are the machine's hold all that is claimed of them
pub sheet_value_of : (r : Rate) → RateUsable r → SheetValueUsable r.ceiling → (s : Setup) (l : Lists) (cs : List Call) (answers : List Answer) → answers ≡ through (machine_system r) (fresh r s l) cs
    → SheetValueOf r s l cs answers
unfolding joined_multiplied
sheet_value_of r u v s l cs answers e =
    let j = joined_of r u s l cs answers e in
    let h = heard_delivered r s l cs in
    let w = sheet_value_at r.ceiling u.ceiling v in
    record {
      frames = j.frames ∙ ap frames_out h;
      counts = j.counts ∙ ap counts_out h;
      so_far =
          λ (k : ℕ) a.
          subst⁻¹ (All (FrameBound r.ceiling.limit)) (outs_take (multiplied_step r.ceiling) k 0 fresh_machine (joined_mixed r s l cs))
          (w.machine (take k (joined_mixed r s l cs)) a);
      each = w.each (joined_mixed r s l cs);
    }

pub sheet_value_at_rate : (r : Rate) → RateUsable r → SheetValueUsable r.ceiling → JoinedSheetValueAt r
unfolding JoinedSheetValueAt
sheet_value_at_rate r u v s l store counts t e cs = sheet_value_of r u v s l cs _ (answered r u s l store counts t e cs)

-- E11, of every list of calls
pub joined_sheet_value : JoinedSheetValue
joined_sheet_value = record { at_44100 = sheet_value_at_rate (rate_of 44100) usable_44100 sheet_value_usable_44100 }
