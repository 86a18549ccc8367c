-- The constants of the code, and that a step keeps a tuning. Assumes nothing.
use mathlib.Core.Path.{◌≡◌, refl}
use Prim.Native.Nat.{ℕ}
use lib.Ieee.{Float, binary64, of_bits, add, sub, mul, div, neg, of_int}
use Rattle.casts.specs.Cast.{floored}
use Rattle.elementary.specs.Elementary.{COS, down}
use Rattle.biquad.specs.declared.Lowpass.{Lowpass}
use Rattle.biquad.specs.Section.{section_step, retuned, lowpass_step}
use Rattle.biquad.specs.Cookbook.{butter_q, lowpass_retuned}

-- the Qs of an order of 4: 1.307 first, then 0.541
pub q_first : of_bits binary64 0x3ff4_e7ae_9144_f0fe ≡ butter_q 1 4
unfolding butter_q COS down of_bits add sub mul div neg of_int floored
q_first = refl

pub q_second : of_bits binary64 0x3fe1_517a_7bdb_3894 ≡ butter_q 2 4
unfolding butter_q COS down of_bits add sub mul div neg of_int floored
q_second = refl

-- a step keeps the coefficients, so that tuning at each sample is tuning once
pub lowpass_stepped : (l : Lowpass) (hz : Float) (rate : ℕ) (x : Float) → lowpass_retuned (lowpass_step (lowpass_retuned l hz rate) x) hz rate ≡ lowpass_step (lowpass_retuned l hz rate) x
unfolding lowpass_retuned lowpass_step retuned section_step
lowpass_stepped l hz rate x = refl
