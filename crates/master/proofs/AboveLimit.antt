-- At both rates a side passes the limit before the clamp: antt computes it. Assumes nothing.
use mathlib.Core.Path.{subst⁻¹}
use lib.Ieee.{mul, div, lt, le, neg, is_nan, of_bits, of_int, round, to_unsigned}
use Rattle.casts.specs.Arithmetic.{size_of}
use Rattle.casts.specs.Step.{step_of}
use Rattle.stage.specs.Stage.{outs}
use Rattle.rate.specs.Ceiling.{ceiling_rate}
use Rattle.rate.proofs.Ceiling.{ceiling_44100, ceiling_48000}
use Rattle.master.specs.Ceiling.{larger_of, peak_of, need_for, need_of, least, least_of, held_of, last_of, total, released_of, taken, count_of, late_of, gain_of, multiplied, multiplied_step}
use Rattle.master.specs.SheetValue.{AboveLimit}

pub above : AboveLimit (ceiling_rate 44100) × AboveLimit (ceiling_rate 48000)
unfolding outs multiplied_step multiplied gain_of late_of need_of need_for peak_of larger_of size_of least least_of held_of released_of last_of total taken count_of step_of mul div lt le neg is_nan of_bits of_int round to_unsigned
above = (subst⁻¹ AboveLimit ceiling_44100 tt, subst⁻¹ AboveLimit ceiling_48000 tt)
