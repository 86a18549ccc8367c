-- Document 01's marked cases, in one table, a as document 02 reworks it, and beside f the same of tied points, as 02 has them count. Each is proved beside its definition; proofs/Cases.antt gathers them.
use Rattle.std.specs.Prelude.{◌≡◌, true, [], ◌∷◌, map, ℕ, Float}
use Rattle.std.specs.Float.{nan, binary64}
use Rattle.std.specs.Float.Ieee.{of_bits, neg, eq}
use Rattle.casts.specs.Arithmetic.{◌⊗◌, nought, half, one, two, whole}
use Rattle.stream.specs.declared.Frame.{Frame}
use Rattle.stream.specs.Stream.{flushed}
use Rattle.ramp.specs.declared.Ramp.{Ramp}
use Rattle.ramp.specs.Ramp.{ramp_at, toward}
use Rattle.ramp.specs.Cases.{rising}
use Rattle.automation.specs.Automation.{block_of, sweep_at, swept}
use Rattle.automation.specs.Cases.{sixty_fourths, two_then_three, three_then_two, all_on_one, positions}
use Rattle.sidechain.specs.Sidechain.{sidechain_gain}
use Rattle.delay.specs.Delay.{at_of, tap_of}
use Rattle.delay.specs.Cases.{line}
use Rattle.rate.specs.declared.CeilingRate.{CeilingRate}
use Rattle.master.specs.Ceiling.{silence, need_of, ceiling_step, fresh_machine}

abbrev number : ℕ → Float
number bits = of_bits binary64 bits

abbrev frame : Float → Float → Frame
frame l r = record { left = l; right = r }

-- "Points (10, 1), (74, 0)"
abbrev closing : ℕ → Float
closing n = sweep_at (10 ∷ 74 ∷ []) (one ∷ nought ∷ []) n

pub record Cases (r : CeilingRate) : Type 0 where
  -- "Flush: 1e-20 stays, the f64 below it gives 0, NaN stays.", which 02's E5 reworks at the new floor, 2^-64
  pub a : (flushed (number 0x3bf0_0000_0000_0000) ≡ number 0x3bf0_0000_0000_0000) × (flushed (number 0x3bef_ffff_ffff_ffff) ≡ nought) × (flushed nan ≡ nan)
  -- "Ramp 0, toward 1 at 0 over 100: at 50, 0.5; at 100, 1."
  pub b : (ramp_at rising 50 ≡ half) × (ramp_at rising 100 ≡ one)
  -- "That ramp toward 0 at 50 over 4: at 52, 0.25."
  pub c : ramp_at (toward rising 50 nought 4) 52 ≡ number 0x3fd0_0000_0000_0000
  -- "Toward an equal target: unchanged."
  pub d : (ramp : Ramp) (n : ℕ) (to : Float) (len : ℕ) → eq ramp.to to ≡ true → toward ramp n to len ≡ ramp
  -- "B(31) = 0, B(32) = 32."
  pub e : (block_of 31 ≡ 0) × (block_of 32 ≡ 32)
  -- "at 9 and 31, 1; at 32 and 63, 0.65625; at 64, 0.15625; at 74, 0"
  pub f :
      (closing 9 ≡ one)
      × (closing 31 ≡ one)
      × (closing 32 ≡ number 0x3fe5_0000_0000_0000)
      × (closing 63 ≡ number 0x3fe5_0000_0000_0000)
      × (closing 64 ≡ number 0x3fc4_0000_0000_0000)
      × (closing 74 ≡ nought)
  -- 02's E8: "tied points now count as one, bearing the lowest value". On 10 the values 0.5, 0.75 and on 74 the values 1, 0, 0.5; on 10 the values 1, 0.25, 0.5 and on 74 the values 0.75, 1; on 10 alone 0.75, 0.25, 0.5: at 9, 10, 31, 32, 63, 64, 73, 74
  pub ties :
      (map two_then_three positions ≡ one ∷ half ∷ half ∷ sixty_fourths 21 ∷ sixty_fourths 21 ∷ sixty_fourths 5 ∷ sixty_fourths 5 ∷ nought ∷ [])
      × (map three_then_two positions ≡ one ∷ sixty_fourths 16 ∷ sixty_fourths 16 ∷ sixty_fourths 27 ∷ sixty_fourths 27 ∷ sixty_fourths 43 ∷ sixty_fourths 43 ∷ sixty_fourths 48 ∷ [])
      × (map all_on_one positions ≡ one ∷ sixty_fourths 16 ∷ sixty_fourths 16 ∷ sixty_fourths 16 ∷ sixty_fourths 16 ∷ sixty_fourths 16 ∷ sixty_fourths 16 ∷ sixty_fourths 16 ∷ [])
  -- "Own 8000: value 1 gives 8000, 0 gives 800; own 700, value 0: 700."
  pub g : (swept (whole 8000) one ≡ whole 8000) × (swept (whole 8000) nought ≡ whole 800) × (swept (whole 700) nought ≡ whole 700)
  -- "Sidechain, attack 4, release 4, floor 0.5: since 0, 2, 4, 6, 8 gives 1, 0.75, 0.5, 0.75, 1."
  pub h :
      map (sidechain_gain (record { attack = 4; release = 4; floor = half })) (0 ∷ 2 ∷ 4 ∷ 6 ∷ 8 ∷ [])
      ≡ one ∷ number 0x3fe8_0000_0000_0000 ∷ half ∷ number 0x3fe8_0000_0000_0000 ∷ one ∷ []
  -- "Line of greatest delay 2 after 1, 2, 3: tap −1 and 0 give 3; 0.5 gives 2.5; 9 gives 1."
  pub i :
      (tap_of (at_of line) two (neg one) ≡ whole 3)
      × (tap_of (at_of line) two nought ≡ whole 3)
      × (tap_of (at_of line) two half ≡ number 0x4004_0000_0000_0000)
      × (tap_of (at_of line) two (whole 9) ≡ one)
  -- "Need: peak at the limit, 1; both NaN, 1; one NaN and 2·limit, 0.5."
  pub j :
      map (need_of r) (frame r.limit nought ∷ frame nan nan ∷ frame nan (two ⊗ r.limit) ∷ frame (two ⊗ r.limit) nan ∷ frame nought (neg (two ⊗ r.limit)) ∷ [])
      ≡ one ∷ one ∷ half ∷ half ∷ half ∷ []
  -- "Fresh ceiling: silence counts 242992069738496; instead peak 2·limit counts 242442313924608."
  pub k : map (λ (x : Frame). (ceiling_step r 0 fresh_machine x).out.count) (silence ∷ frame (two ⊗ r.limit) nought ∷ []) ≡ 242992069738496 ∷ 242442313924608 ∷ []
