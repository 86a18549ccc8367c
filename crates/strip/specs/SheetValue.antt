-- 02, E11, "The ceiling's sheet value", where a buyer meets it: of the frames that a list of calls delivers, at the rate that is sold.
-- The claim is `JoinedSheetValue`, which takes no argument; `joined_sheet_value` in proofs/SheetValue.antt is a term of it. What is moderate, and the bound, are crate master's.
use Rattle.std.specs.Prelude.{ℕ, ◌≡◌, List, ◌++◌, map, take, replicate}
use Rattle.stage.specs.Stage.{outs, All, Beside}
use Rattle.stream.specs.declared.Frame.{Frame}
use Rattle.rate.specs.declared.Rate.{Rate}
use Rattle.rate.specs.Rate.{rate_of}
use Rattle.tape.specs.Tape.{Lists}
use Rattle.master.specs.Ceiling.{fresh_machine, silence, Multiplied, multiplied_step, delivered}
use Rattle.master.specs.Kept.{frames_out, counts_out}
use Rattle.master.specs.SheetValue.{ModerateFrame, FrameBound, Figure}
use Rattle.strip.specs.declared.Setup.{Setup}
use Rattle.strip.specs.Machine.{fresh}
use Rattle.strip.specs.Promise.{Call, Answer, joined_frames, joined_counts, joined_events, mixed_from, EveryList}

-- the mixed frames of a list of calls: "The frame is (y + l, y + r)."
unfoldable pub joined_mixed : Rate → Setup → Lists → List Call → List Frame
joined_mixed r s l cs = mixed_from r (fresh r s l) (joined_events 0 cs)

-- "each delivered side, before narrowing and clamping": what a fresh ceiling makes of them
unfoldable pub joined_multiplied : Rate → Setup → Lists → List Call → List Multiplied
joined_multiplied r s l cs = outs (multiplied_step r.ceiling) 0 fresh_machine (joined_mixed r s l cs)

-- What is claimed of a list of calls and of the answers to it, the strip having been opened under the setup s and the lists l
pub record SheetValueOf (r : Rate) (s : Setup) (l : Lists) (cs : List Call) (answers : List Answer) : Type 0 where
  -- the joined frames and counts are these sides, narrowed and clamped, and their counts
  pub frames : joined_frames answers ≡ frames_out (map (delivered r.ceiling) (joined_multiplied r s l cs))
  pub counts : joined_counts answers ≡ counts_out (map (delivered r.ceiling) (joined_multiplied r s l cs))
  -- while the first k mixed frames are finite and at most 2^100 on both sides, the first k joined frames, before narrowing and clamping, have "|side| · 2^51 ≤ limit · (2^51 + 1)"
  pub so_far : (k : ℕ) → All ModerateFrame (take k (joined_mixed r s l cs)) → All (FrameBound r.ceiling.limit) (take k (joined_multiplied r s l cs))
  -- and more: of each joined frame by itself, beside the mixed frame 220 back that it comes from, whatever the others hold
  pub each : Beside (Figure r.ceiling.limit) (replicate r.ceiling.ahead silence ++ joined_mixed r s l cs) (joined_multiplied r s l cs)

unfoldable pub JoinedSheetValueAt : Rate → Type 0
JoinedSheetValueAt r = EveryList r (SheetValueOf r)

-- E11, of every list of calls
pub record JoinedSheetValue : Type 0 where
  pub at_44100 : JoinedSheetValueAt (rate_of 44100)
