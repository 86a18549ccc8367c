-- 02, E11, "The ceiling's sheet value": "Buyers of small coils want a figure before the clamp." The claim is `SheetValue`, which takes no argument; `sheet_value` in proofs/SheetValue.antt is a term of it.
-- "Both sides of this are exact values over whole numbers": a finite value's size is num / den, a fraction of whole numbers (the kit's lib.Ieee.Positive).
use Rattle.std.specs.Prelude.{◌≡◌, ℕ, ◌+◌, ◌*◌, ◌^◌, ◌≤◌, T, List, ◌∷◌, ◌++◌, replicate, from_bits, slice_index_or}
use lib.Ieee.{Float, binary64, lt}
use Rattle.std.specs.Float.Ieee.Scale.{finite}
use Rattle.std.specs.Float.Ieee.Positive.{num, den}
use Rattle.casts.specs.Arithmetic.{nought}
use Rattle.casts.specs.Cast.{narrowed}
use Rattle.stage.specs.Stage.{outs, All, Beside}
use Rattle.rate.specs.declared.CeilingRate.{CeilingRate}
use Rattle.rate.specs.Ceiling.{ceiling_rate}
use Rattle.stream.specs.declared.Frame.{Frame}
use Rattle.master.specs.Ceiling.{fresh_machine, silence, Multiplied, multiplied_step, clamped}
use Rattle.master.specs.Kept.{multiplied_step_on, ceiling_fresh}
use Rattle.master.specs.WellFormed.{Sized}

-- "sides are finite and at most 2^100 in size"
pub record Moderate (x : Float) : Type 0 where
  pub is_finite : T (finite x)
  pub size : num x ≤ 2 ^ 100 * den x

pub record ModerateFrame (f : Frame) : Type 0 where
  pub left : Moderate f.left
  pub right : Moderate f.right

-- "|side| · 2^51 ≤ limit · (2^51 + 1)", each side of ≤ multiplied by den side · den limit; a limit has no sign
pub record SideBound (limit side : Float) : Type 0 where
  pub is_finite : T (finite side)
  pub size : num side * 2 ^ 51 * den limit ≤ num limit * (2 ^ 51 + 1) * den side

pub record FrameBound (limit : Float) (m : Multiplied) : Type 0 where
  pub left : SideBound limit m.left
  pub right : SideBound limit m.right

-- "a figure before the clamp", of one frame and what it is delivered as
abbrev pub Figure : Float → Frame → Multiplied → Type 0
Figure limit f m = ModerateFrame f → FrameBound limit m

-- "For every list of frames from a fresh ceiling whose sides are finite and at most 2^100 in size, each delivered side, before narrowing and clamping, has |side| · 2^51 ≤ limit · (2^51 + 1)."
pub record SheetValueAt (r : CeilingRate) : Type 0 where
  -- of the machine
  pub machine : (fs : List Frame) → All ModerateFrame fs → All (FrameBound r.limit) (outs (multiplied_step r) 0 fresh_machine fs)
  -- of the ceiling as it is kept, from what open lays in parts of the stores that held anything
  pub kept : (samples : List Float) (counts : List ℕ) → Sized r samples counts
      → (fs : List Frame) → All ModerateFrame fs → All (FrameBound r.limit) (outs (multiplied_step_on r) 0 (ceiling_fresh r samples counts) fs)
  -- and more: of each delivered frame by itself, beside the one `ahead` back that it comes from, whatever the other frames hold
  pub each : (fs : List Frame) → Beside (Figure r.limit) (replicate r.ahead silence ++ fs) (outs (multiplied_step r) 0 fresh_machine fs)
  -- and so the clamp alters none of these sides
  pub unclamped : (side : Float) → SideBound r.limit side → clamped r.limit (narrowed side) ≡ narrowed side

-- That the limit itself is no such bound: a frame with 1.1362060345226561 on the right, and silence until it is delivered, above the limit
abbrev pub above_frame : Frame
above_frame = record { left = nought; right = from_bits binary64 0x3ff2_2de6_60fc_aeb7 }

abbrev pub AboveLimit : CeilingRate → Type 0
AboveLimit r =
    let nothing : Multiplied = record { left = nought; right = nought; count = 0 } in
    T (lt r.limit (slice_index_or (outs (multiplied_step r) 0 fresh_machine (above_frame ∷ replicate r.ahead silence)) r.ahead nothing).right)

-- E11: "It is to hold at both rates."
pub record SheetValue : Type 0 where
  pub at_44100 : SheetValueAt (ceiling_rate 44100)
  pub at_48000 : SheetValueAt (ceiling_rate 48000)
  pub above_44100 : AboveLimit (ceiling_rate 44100)
  pub above_48000 : AboveLimit (ceiling_rate 48000)
