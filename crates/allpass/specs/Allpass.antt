-- The plate's lines, each as a history and as a ring of its part: a lattice all-pass, and a plain delay. Definitions only.
use Rattle.std.specs.Prelude.{ℕ, ◌+◌, ◌-◌, ◌<◌, ◌≤◌, List, length, Float}
use Rattle.casts.specs.Arithmetic.{◌⊕◌, ◌⊖◌, ◌⊗◌, whole, nought, one}
use Rattle.stage.specs.Stage.{Step, Stage}
use Rattle.stream.specs.Stream.{flushed}
use Rattle.delay.specs.Delay.{push_of, at_of, tap_of, line_push, line_at, line_tap}
use Rattle.rate.specs.declared.LineRate.{LineRate}

-- ---- as histories

-- what a line inside a loop takes: the Rust's `flush(v) + kick`, kick being 0
unfoldable pub stored_of : Float → Float
stored_of v = flushed v ⊕ nought

-- a lattice of coefficient g whose line gives d: w = x + g·d is pushed, and d − g·w comes out
unfoldable pub lattice_from : LineRate → Float → Float → List Float → Float → Step (List Float) Float
lattice_from r g d line x =
    let w = stored_of (x ⊕ g ⊗ d) in
    record { next = push_of r.line.ring line w; out = d ⊖ g ⊗ w }

-- d is read before the push
unfoldable pub lattice_step : LineRate → Float → List Float → Float → Step (List Float) Float
lattice_step r g line x = lattice_from r g (at_of line (r.delay - 1)) line x

-- the same `stretch` frames longer, between frames
unfoldable pub stretched_step : LineRate → Float → Float → Float → List Float → Float → Step (List Float) Float
stretched_step r reach stretch g line x = lattice_from r g (tap_of (at_of line) reach (whole r.delay ⊕ stretch ⊖ one)) line x

-- a plain delay: pushed, then read at its length
unfoldable pub delay_step : LineRate → List Float → Float → Step (List Float) Float
delay_step r line x =
    let l = push_of r.line.ring line x in
    record { next = l; out = at_of l r.delay }

-- ---- the same as rings of a part, the sample's count being n

abbrev pub gave : {S Y : Type 0} → S → Y → Step S Y
gave s y = record { next = s; out = y }

unfoldable pub lattice_from_on : LineRate → Float → Float → Stage (List Float) Float Float
lattice_from_on r g d n part x =
    let w = stored_of (x ⊕ g ⊗ d) in
    record { next = line_push r.line part n w; out = d ⊖ g ⊗ w }

unfoldable pub lattice_on : LineRate → Float → Stage (List Float) Float Float
lattice_on r g n part x = lattice_from_on r g (line_at r.line part n (r.delay - 1)) n part x

-- what a lattice's line gives, `stretch` frames longer
unfoldable pub stretched_at : LineRate → Float → Float → ℕ → List Float → Float
stretched_at r reach stretch n part = line_tap r.line part n reach (whole r.delay ⊕ stretch ⊖ one)

unfoldable pub delay_on : LineRate → Stage (List Float) Float Float
delay_on r n part x =
    let p = line_push r.line part n x in
    record { next = p; out = line_at r.line p (n + 1) r.delay }

-- a line that lies within its part
pub record Lent (l : LineRate) (part : List Float) : Type 0 where
  pub ring : 0 < l.line.ring
  pub room : l.line.at + l.line.ring ≤ length part
  pub some : 0 < l.delay
  pub within : l.delay < 65536
