-- What the lane plays under: daylight, the sweep, the tone. Definitions only.
use Rattle.std.specs.Prelude.{ℕ, suc, ◌-◌, ◌%◌, max, cond, ◌||◌, List, [], ◌∷◌, map, length, drop, ◌==◌, from_bits, nat_le, slice_index, slice_index_or, Float}
use Rattle.std.specs.Float.{nan, binary32}
use Rattle.std.specs.Float.Ieee.{le}
use Rattle.casts.specs.Arithmetic.{◌⊕◌, ◌⊖◌, ◌⊗◌, ◌⊘◌, whole, nought, one}
use Rattle.casts.specs.Cast.{narrowed}
use Rattle.casts.specs.Least.{min_f}
use Rattle.elementary.specs.Elementary.{POW}
use Rattle.ramp.specs.declared.Ramp.{Ramp}
use Rattle.ramp.specs.Ramp.{ramp_end, ramp_at}
use Rattle.automation.specs.declared.Tone.{Tone}
use Rattle.automation.specs.declared.Tone.TheVariants.{Fixed, Graded}
use Rattle.automation.specs.declared.Tuning.{Tuning}

-- "B(n) = n − n mod 32"
unfoldable pub block_of : ℕ → ℕ
block_of n = n - n % 32

-- "Daylight t: the target if n ≥ the ramp's end, else the ramp at the larger of B(n) and its start."
unfoldable pub daylight_of : Ramp → ℕ → Float
daylight_of r n = cond (nat_le (ramp_end r) n) r.to (ramp_at r (max (block_of n) r.start))

-- how many points from the front lie at or before n. In a list that never falls the last of these is "the last at or before", and the next "the first after"
unfoldable pub reached : List ℕ → ℕ → ℕ
reached [] n = 0
reached (p ∷ ps) n = cond (nat_le p n) (suc (reached ps n)) 0

-- "xa + (xb − xa)·(m − a)/(b − a) with m the larger of B(n) and a"
unfoldable pub segment : ℕ → Float → ℕ → Float → ℕ → Float
segment a xa b xb n = xa ⊕ (xb ⊖ xa) ⊗ whole (max (block_of n) a - a) ⊘ whole (b - a)

-- "Sweep value: 1 before any point; the last point's value after all; else, a and b the points around n", of points no two of which are tied
unfoldable pub sweep_of : List ℕ → List Float → ℕ → Float
sweep_of ps xs n =
    let i = reached ps n in
    cond (i == 0) one
    (cond (i == length ps) (slice_index_or xs (i - 1) nan)
    (segment (slice_index ps (i - 1)) (slice_index_or xs (i - 1) nan) (slice_index ps i) (slice_index_or xs i nan) n))

-- a sweep point: "(position, value 0 to 1)"
pub record Point : Type 0 where
  pub position : ℕ
  pub value : Float

-- the points of a list of positions and a list of values, one value a position. (One that is missing is NaN; refusal 3 declines such lists.)
unfoldable pub points_of : List ℕ → List Float → List Point
points_of [] xs = []
points_of (p ∷ ps) xs = record { position = p; value = slice_index_or xs 0 nan } ∷ points_of ps (drop 1 xs)

abbrev pub positions_of : List Point → List ℕ
positions_of ps = map (λ (p : Point). p.position) ps

abbrev pub values_of : List Point → List Float
values_of ps = map (λ (p : Point). p.value) ps

-- 02, E8: "tied points now count as one, bearing the lowest value": a point before points that are merged, of which only the first may be tied with it
unfoldable pub merged_with : Point → List Point → List Point
merged_with p [] = p ∷ []
merged_with p (q ∷ qs) = cond (p.position == q.position) (record { position = p.position; value = min_f p.value q.value } ∷ qs) (p ∷ q ∷ qs)

-- a list never falls, so points that are tied stand side by side
unfoldable pub merged : List Point → List Point
merged [] = []
merged (p ∷ ps) = merged_with p (merged ps)

-- 02, E8: "For the sweep's value, tied points now count as one, ..; all else takes the list as given."
unfoldable pub sweep_at : List ℕ → List Float → ℕ → Float
sweep_at ps xs n =
    let m = merged (points_of ps xs) in
    sweep_of (positions_of m) (values_of m) n

-- 800 Hz, f32 in the Rust
abbrev pub filtered_hz : Float
filtered_hz = from_bits binary32 0x4448_0000

-- "own if value ≥ 1 or own ≤ 800; 800 if value ≤ 0; else own^value · 800^(1−value), narrowed"
unfoldable pub swept : Float → Float → Float
swept own value =
    cond (le one value || le own filtered_hz) own
    (cond (le value nought) filtered_hz (narrowed (POW own value ⊗ POW filtered_hz (one ⊖ value))))

-- "Graded corner and drive follow `Grade`": night's at 0, day's at 1; between them the corner goes by octaves, and the drive straight
unfoldable pub corner_between : Float → Float → Float → Float
corner_between night day t = cond (le t nought) night (cond (le one t) day (narrowed (night ⊗ POW (day ⊘ night) t)))

unfoldable pub drive_between : Float → Float → Float → Float
drive_between night day t = cond (le t nought) night (cond (le one t) day (night ⊗ (one ⊖ t) ⊕ day ⊗ t))

-- "a tone is either fixed, with one corner and one drive (f64), or graded between two of each (f32)"
unfoldable pub tone_at : Tone → Float → Tuning
tone_at (Fixed corner drive) t = record { corner = corner; drive = drive }
tone_at (Graded nightCorner dayCorner nightDrive dayDrive) t = record { corner = corner_between nightCorner dayCorner t; drive = drive_between nightDrive dayDrive t }

-- the corner and the drive of the sample at n: "Corner by `swept`"
unfoldable pub tuning_at : Tone → Ramp → List ℕ → List Float → ℕ → Tuning
tuning_at tone daylight ps xs n =
    let own = tone_at tone (daylight_of daylight n) in
    record { corner = swept own.corner (sweep_at ps xs n); drive = own.drive }
