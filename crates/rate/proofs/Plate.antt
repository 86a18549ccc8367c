-- The plate's numbers at 44,100 Hz, as antt computes them. Assumes nothing.
use mathlib.Core.Path.{◌≡◌, refl, ap, subst⁻¹, ◌∙◌}
use Prim.Native.Nat.{ℕ, ◌%◌, ◌^◌, ◌<◌, ◌≤◌}
use lib.Dec.{lit<, lit≤}
use lib.Ieee.{Float, binary64, of_bits, to_bits, add, sub, mul, div, neg, le, lt, of_int, to_unsigned, round, to_signed}
use Rattle.casts.specs.Arithmetic.{◌⊗◌, ◌⊘◌, whole}
use Rattle.elementary.specs.Elementary.{POW, EXP, LN, SIN, COS, down}
use Rattle.casts.specs.Cast.{floored, two_to}
use Rattle.onepole.specs.OnePole.{pole_of}
use Rattle.biquad.specs.declared.Coefficients.{Coefficients}
use Rattle.biquad.specs.Cookbook.{highpass_at, butter_q, hpf, normalized, angle_of}
use Rattle.delay.specs.Delay.{ring_of, power_from}
use Rattle.rate.specs.declared.LineRate.{LineRate}
use Rattle.rate.specs.declared.InputRate.{InputRate}
use Rattle.rate.specs.declared.HalfRate.{HalfRate}
use Rattle.rate.specs.declared.Taps.{Taps}
use Rattle.rate.specs.declared.PlateRate.{PlateRate}
use Rattle.rate.specs.Lengths.{rounded, ceil_of, samples_at}
use Rattle.rate.specs.Plate.{scaled, predelay_of, excursion_of, reach_of, input_rate, half_rate, left_rate, right_rate, left_taps, right_taps, trip_of, decay_of, diffusion_of, damping_of, highpass_of, plate_rate, LineUsable, PlateUsable}

abbrev line : ℕ → ℕ → ℕ → LineRate
line at ring delay = record { line = record { at = at; ring = ring }; delay = delay }

abbrev taps : ℕ → ℕ → ℕ → ℕ → ℕ → ℕ → ℕ → Taps
taps a b c d e f g = record { first = a; second = b; third = c; fourth = d; fifth = e; sixth = f; seventh = g }

abbrev pub input_cd : InputRate
input_cd =
    record {
      predelay = line 0 1024 882;
      diffuser1 = line 1024 256 210;
      diffuser2 = line 1280 256 159;
      diffuser3 = line 1536 1024 562;
      diffuser4 = line 2560 512 410;
      places = 3072;
    }

abbrev pub left_cd : HalfRate
left_cd =
    record {
      diffuser1 = line 0 1024 996;
      reach = of_bits binary64 0x408f_7ed5_e4d5_d79f;
      delay1 = line 1024 8192 6598;
      diffuser2 = line 9216 4096 2667;
      delay2 = line 13312 8192 5512;
      places = 21504;
      taps = taps 394 4407 2835 2958 2949 277 1580;
    }

abbrev pub right_cd : HalfRate
right_cd =
    record {
      diffuser1 = line 0 2048 1345;
      reach = of_bits binary64 0x4095_336a_f26a_ebd0;
      delay1 = line 2048 8192 6249;
      diffuser2 = line 10240 4096 3936;
      delay2 = line 14336 8192 4687;
      places = 22528;
      taps = taps 523 5375 1820 3961 3128 496 179;
    }

pub input_44100 : input_rate 44100 ≡ input_cd
unfolding input_rate predelay_of samples_at scaled rounded ring_of power_from of_bits sub mul div le of_int to_unsigned round
input_44100 = refl

pub left_44100 : left_rate 44100 ≡ left_cd
unfolding left_rate left_taps half_rate reach_of excursion_of ceil_of scaled rounded ring_of power_from of_bits add sub mul div le lt of_int to_unsigned
left_44100 = refl

pub right_44100 : right_rate 44100 ≡ right_cd
unfolding right_rate right_taps half_rate reach_of excursion_of ceil_of scaled rounded ring_of power_from of_bits add sub mul div le lt of_int to_unsigned
right_44100 = refl

trip : trip_of 44100 ≡ 31990
unfolding trip_of scaled rounded of_bits sub mul div le of_int to_unsigned
trip = refl

abbrev fall : ℕ → Float
fall n = neg (whole 60) ⊘ whole 20 ⊗ (whole n ⊘ whole 44100) ⊘ (whole 4 ⊗ of_bits binary64 0x3ff8_0000_0000_0000)

power : POW (whole 10) (fall 31990) ≡ of_bits binary64 0x3fdb_c393_8428_8b06
unfolding POW EXP LN down floored two_to round to_signed of_bits to_bits add sub mul div neg le of_int to_unsigned
power = refl

pub decay_44100 : decay_of 44100 ≡ of_bits binary64 0x3fdb_c393_8428_8b06
unfolding decay_of
decay_44100 = ap (λ (n : ℕ). POW (whole 10) (fall n)) trip ∙ power

pub diffusion_44100 : diffusion_of (of_bits binary64 0x3fdb_c393_8428_8b06) ≡ of_bits binary64 0x3fe0_0000_0000_0000
unfolding diffusion_of of_bits add lt
diffusion_44100 = refl

pub excursion_44100 : excursion_of 44100 ≡ of_bits binary64 0x4027_b579_3575_e7dd
unfolding excursion_of of_bits mul div of_int
excursion_44100 = refl

pub damping_44100 : damping_of 44100 ≡ of_bits binary64 0x3fdf_63f4_b78b_ab2c
unfolding damping_of pole_of EXP down floored two_to round to_signed of_bits add sub mul div neg le of_int to_unsigned
damping_44100 = refl

abbrev pub highpass_cd : Coefficients
highpass_cd =
    record {
      b0 = of_bits binary64 0x3fef_0c1c_6172_417d;
      b1 = neg (of_bits binary64 0x3fff_0c1c_6172_417d);
      b2 = of_bits binary64 0x3fef_0c1c_6172_417d;
      a1 = neg (of_bits binary64 0x3fff_087a_c50d_f11a);
      a2 = of_bits binary64 0x3fee_1f7b_fbad_23c2;
    }

pub highpass_44100 : highpass_of 44100 ≡ highpass_cd
unfolding highpass_of highpass_at butter_q hpf normalized angle_of SIN COS down floored round of_bits add sub mul div neg of_int to_unsigned
highpass_44100 = refl

abbrev pub plate_cd : PlateRate
plate_cd =
    record {
      sr = 44100;
      input = input_cd;
      left = left_cd;
      right = right_cd;
      decay = of_bits binary64 0x3fdb_c393_8428_8b06;
      diffusion = of_bits binary64 0x3fe0_0000_0000_0000;
      excursion = of_bits binary64 0x4027_b579_3575_e7dd;
      damping = of_bits binary64 0x3fdf_63f4_b78b_ab2c;
      highpass = highpass_cd;
    }

pub plate_44100 : plate_rate 44100 ≡ plate_cd
unfolding plate_rate
plate_44100 = rw (input_44100, left_44100, right_44100, decay_44100, diffusion_44100, excursion_44100, damping_44100, highpass_44100)

-- ---- the numbers are usable

fit : (at ring delay : ℕ) → 0 < ring → ring ≤ 65536 → 2 ^ 64 % ring ≡ 0 → 0 < delay → delay < ring → LineUsable (line at ring delay) at
fit at ring delay p s e d w = record { ring = record { some = p; small = s; even = e }; placed = refl; some = d; within = w }

pub usable_44100 : PlateUsable (plate_rate 44100)
unfolding of_bits le lt to_unsigned
usable_44100 =
    subst⁻¹ PlateUsable plate_44100
    (record {
      sr = lit< tt;
      input =
          record {
            predelay = fit 0 1024 882 (lit< tt) (lit≤ tt) refl (lit< tt) (lit< tt);
            diffuser1 = fit 1024 256 210 (lit< tt) (lit≤ tt) refl (lit< tt) (lit< tt);
            diffuser2 = fit 1280 256 159 (lit< tt) (lit≤ tt) refl (lit< tt) (lit< tt);
            diffuser3 = fit 1536 1024 562 (lit< tt) (lit≤ tt) refl (lit< tt) (lit< tt);
            diffuser4 = fit 2560 512 410 (lit< tt) (lit≤ tt) refl (lit< tt) (lit< tt);
            places = refl;
          };
      left =
          record {
            diffuser1 = fit 0 1024 996 (lit< tt) (lit≤ tt) refl (lit< tt) (lit< tt);
            delay1 = fit 1024 8192 6598 (lit< tt) (lit≤ tt) refl (lit< tt) (lit< tt);
            diffuser2 = fit 9216 4096 2667 (lit< tt) (lit≤ tt) refl (lit< tt) (lit< tt);
            delay2 = fit 13312 8192 5512 (lit< tt) (lit≤ tt) refl (lit< tt) (lit< tt);
            places = refl;
            reach = record { low = tt; high = tt };
            reaches = lit< tt;
          };
      right =
          record {
            diffuser1 = fit 0 2048 1345 (lit< tt) (lit≤ tt) refl (lit< tt) (lit< tt);
            delay1 = fit 2048 8192 6249 (lit< tt) (lit≤ tt) refl (lit< tt) (lit< tt);
            diffuser2 = fit 10240 4096 3936 (lit< tt) (lit≤ tt) refl (lit< tt) (lit< tt);
            delay2 = fit 14336 8192 4687 (lit< tt) (lit≤ tt) refl (lit< tt) (lit< tt);
            places = refl;
            reach = record { low = tt; high = tt };
            reaches = lit< tt;
          };
      left_taps = record { first = lit< tt; second = lit< tt; third = lit< tt; fourth = lit< tt; fifth = lit< tt; sixth = lit< tt; seventh = lit< tt };
      right_taps = record { first = lit< tt; second = lit< tt; third = lit< tt; fourth = lit< tt; fifth = lit< tt; sixth = lit< tt; seventh = lit< tt };
    })
