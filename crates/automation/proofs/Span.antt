-- A piece: the tuning of its first sample is that of each. Assumes nothing.
use Rattle.std.proofs.Common.{◌≡◌, ℕ, ◌+◌, ◌-◌, ◌%◌, ◌<◌, ◌≤◌, min, List, length, get_or, sym, ◌∙◌, arith, eq-eqb, ne_eqb, le-leb}
use native.Mathlib.Decide.{dec_le}
use lib.Ieee.{Float}
use borrow.Author.Tests.{lt-leb}
use Rattle.ramp.specs.declared.Ramp.{Ramp}
use Rattle.ramp.specs.Ramp.{ramp_end}
use Rattle.ranges.specs.Ranges.{last_position}
use Rattle.automation.specs.declared.Tone.{Tone}
use Rattle.automation.specs.Automation.{block_of, daylight_of, reached, segment, sweep_at, tuning_at}
use Rattle.automation.specs.Pieces.{ramp_span, sweep_span, span}
use Rattle.automation.proofs.Points.{reached_most, reached_next, reached_same}
use Rattle.automation.proofs.Relates.{sweep_before, sweep_after, sweep_between}

same_block : (n j : ℕ) → j < 32 - n % 32 → block_of (n + j) ≡ block_of n
unfolding block_of
same_block n j h = omega arith

module _ (r : Ramp) (n : ℕ) where
  -- an ended ramp's span and that of one on its way
  ramp_ended : ramp_end r ≤ n → ramp_span r n ≡ last_position
  unfolding ramp_span
  ramp_ended h = rw (le-leb (ramp_end r) n h)

  ramp_going : n < ramp_end r → ramp_span r n ≡ min (ramp_end r - n) (32 - n % 32)
  unfolding ramp_span
  ramp_going h = rw (lt-leb (ramp_end r) n h)

  ramp_some : 0 < ramp_span r n
  ramp_some = elim (dec_le (ramp_end r) n) [ yes h ↦ omega (arith, ramp_ended h) | no h ↦ omega (arith, ramp_going (omega arith)) ]

  ramp_most : ramp_span r n ≤ last_position
  ramp_most = elim (dec_le (ramp_end r) n) [ yes h ↦ omega (arith, ramp_ended h) | no h ↦ omega (arith, ramp_going (omega arith)) ]

  daylight_same : (j : ℕ) → j < ramp_span r n → daylight_of r (n + j) ≡ daylight_of r n
  unfolding daylight_of
  daylight_same j h = elim (dec_le (ramp_end r) n) [
    | yes i ↦ rw (le-leb (ramp_end r) (n + j) (omega arith), le-leb (ramp_end r) n i)
    | no i ↦
        let e = ramp_going (omega arith) in
        rw (same_block n j (omega arith), lt-leb (ramp_end r) n (omega arith), lt-leb (ramp_end r) (n + j) (omega arith))
  ]

module _ (ps : List ℕ) (n : ℕ) where
  -- the sweep's span after all points, before any, and between two
  sweep_ended : length ps ≤ reached ps n → sweep_span ps n ≡ last_position
  unfolding sweep_span
  sweep_ended h = rw (eq-eqb (reached ps n) (length ps) (omega (arith, reached_most ps n)))

  sweep_first : reached ps n < length ps → reached ps n ≡ 0 → sweep_span ps n ≡ get_or ps (reached ps n) 0 - n
  unfolding sweep_span
  sweep_first h z = rw (ne_eqb (reached ps n) (length ps) (λ e. omega arith), eq-eqb (reached ps n) 0 z)

  sweep_going : reached ps n < length ps → 0 < reached ps n → sweep_span ps n ≡ min (get_or ps (reached ps n) 0 - n) (32 - n % 32)
  unfolding sweep_span
  sweep_going h k = rw (ne_eqb (reached ps n) (length ps) (λ e. omega arith), ne_eqb (reached ps n) 0 (λ e. omega arith))

  -- the next point is no nearer than the span
  next_span : reached ps n < length ps → sweep_span ps n ≤ get_or ps (reached ps n) 0 - n
  next_span h = elim (dec_le (reached ps n) 0) [ yes z ↦ omega (arith, sweep_first h (omega arith)) | no z ↦ omega (arith, sweep_going h (omega arith)) ]

  sweep_some : 0 < sweep_span ps n
  sweep_some = elim (dec_le (length ps) (reached ps n)) [
    | yes h ↦ omega (arith, sweep_ended h)
    | no h ↦
        let f = reached_next ps n (omega arith) in
        elim (dec_le (reached ps n) 0) [ yes z ↦ omega (arith, sweep_first (omega arith) (omega arith)) | no z ↦ omega (arith, sweep_going (omega arith) (omega arith)) ]
  ]

  points_same : (j : ℕ) → j < sweep_span ps n → reached ps (n + j) ≡ reached ps n
  points_same j h = reached_same ps n j (λ k. let e = next_span k in let f = reached_next ps n k in omega arith)

  -- only between two points does the value go by blocks
  sweep_same : (xs : List Float) (j : ℕ) → j < sweep_span ps n → sweep_at ps xs (n + j) ≡ sweep_at ps xs n
  unfolding segment
  sweep_same xs j h =
      let e = points_same j h in
      elim (dec_le (reached ps n) 0) [
        | yes z ↦ sweep_before ps xs (n + j) (omega arith) ∙ sym (sweep_before ps xs n (omega arith))
        | no z ↦ elim (dec_le (length ps) (reached ps n)) [
          | yes l ↦
              let m = reached_most ps n in
              rw (sweep_after ps xs (n + j) (omega arith) (omega arith), sweep_after ps xs n (omega arith) (omega arith), e)
          | no l ↦
              let g = sweep_going (omega arith) (omega arith) in
              rw (sweep_between ps xs (n + j) (omega arith) (omega arith), sweep_between ps xs n (omega arith) (omega arith), e, same_block n j (omega arith))
        ]
      ]

pub span_some : (r : Ramp) (ps : List ℕ) (n : ℕ) → 0 < span r ps n
unfolding span
span_some r ps n = omega (arith, ramp_some r n, sweep_some ps n)

pub span_most : (r : Ramp) (ps : List ℕ) (n : ℕ) → span r ps n ≤ last_position
unfolding span
span_most r ps n = omega (arith, ramp_most r n)

-- the law that a run's pieces stand on
pub same_tuning : (tone : Tone) (r : Ramp) (ps : List ℕ) (xs : List Float) (n j : ℕ) → j < span r ps n → tuning_at tone r ps xs (n + j) ≡ tuning_at tone r ps xs n
unfolding tuning_at span
same_tuning tone r ps xs n j h = rw (daylight_same r n j (omega arith), sweep_same ps n xs j (omega arith))
