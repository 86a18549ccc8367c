-- Marked cases j and k of document 01 at 44,100 Hz, by one table for each: antt computes both sides. Assumes nothing.
use Rattle.std.proofs.Common.{◌≡◌, ℕ, List, [], ◌∷◌, map}
use lib.Ieee.{Float, nan, mul, div, lt, le, neg, is_nan, of_bits, round, to_unsigned}
use Rattle.casts.specs.Arithmetic.{◌⊗◌, nought, half, one, two, size_of}
use Rattle.casts.specs.Step.{step_of}
use Rattle.rate.specs.declared.CeilingRate.{CeilingRate}
use Rattle.rate.specs.Ceiling.{ceiling_rate}
use Rattle.rate.proofs.Ceiling.{ceiling_44100}
use Rattle.stream.specs.declared.Frame.{Frame}
use Rattle.master.specs.Ceiling.{silence, larger_of, peak_of, need_for, need_of, least, least_of, held_of, last_of, total, released_of, taken, count_of, multiplied, multiplied_step, delivered, ceiling_step, fresh_machine}

abbrev frame : Float → Float → Frame
frame a b = record { left = a; right = b }

-- j: peak at the limit; both sides NaN; one NaN and one of twice the limit, either way round; and minus twice the limit
abbrev pub peaks : CeilingRate → List Frame
peaks r = let twice = two ⊗ r.limit in frame r.limit nought ∷ frame nan nan ∷ frame nan twice ∷ frame twice nan ∷ frame nought (neg twice) ∷ []

pub case_j : map (need_of (ceiling_rate 44100)) (peaks (ceiling_rate 44100)) ≡ one ∷ one ∷ half ∷ half ∷ half ∷ []
unfolding need_of need_for peak_of larger_of size_of mul div lt neg is_nan of_bits round
case_j = rw ceiling_44100

-- k: the count that a fresh ceiling's first frame gives
abbrev pub first_count : CeilingRate → Frame → ℕ
first_count r f = (ceiling_step r 0 fresh_machine f).out.count

pub case_k : map (first_count (ceiling_rate 44100)) (silence ∷ frame (two ⊗ (ceiling_rate 44100).limit) nought ∷ []) ≡ 242992069738496 ∷ 242442313924608 ∷ []
unfolding need_of need_for peak_of larger_of size_of least least_of held_of released_of last_of total taken count_of multiplied multiplied_step delivered ceiling_step step_of mul div lt le neg is_nan of_bits round to_unsigned
case_k = rw ceiling_44100
