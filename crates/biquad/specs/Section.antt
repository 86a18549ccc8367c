-- A second-order section, and the order-4 low-pass of two. Definitions only.
use Rattle.std.specs.Prelude.{Bool, ◌&&◌, Float}
use Rattle.std.specs.Float.Ieee.{eq}
use Rattle.casts.specs.Arithmetic.{◌⊕◌, ◌⊖◌, ◌⊗◌, nought}
use Rattle.stream.specs.Stream.{flushed}
use Rattle.biquad.specs.declared.Section.{Section}
use Rattle.biquad.specs.declared.Coefficients.{Coefficients}
use Rattle.biquad.specs.declared.Lowpass.{Lowpass}

-- "every filter's past is zero"
unfoldable pub section_at : Coefficients → Section
section_at c = record { b0 = c.b0; b1 = c.b1; b2 = c.b2; a1 = c.a1; a2 = c.a2; x1 = nought; x2 = nought; y1 = nought; y2 = nought }

-- "a filter section keeps its five coefficients and four past values". The output is the new y1
unfoldable pub section_step : Section → Float → Section
section_step s x =
    record {
      b0 = s.b0;
      b1 = s.b1;
      b2 = s.b2;
      a1 = s.a1;
      a2 = s.a2;
      x1 = x;
      x2 = s.x1;
      y1 = flushed (s.b0 ⊗ x ⊕ s.b1 ⊗ s.x1 ⊕ s.b2 ⊗ s.x2 ⊖ s.a1 ⊗ s.y1 ⊖ s.a2 ⊗ s.y2);
      y2 = s.y1;
    }

-- "new coefficients keep the past"
unfoldable pub retuned : Section → Coefficients → Section
retuned s c = record { b0 = c.b0; b1 = c.b1; b2 = c.b2; a1 = c.a1; a2 = c.a2; x1 = s.x1; x2 = s.x2; y1 = s.y1; y2 = s.y2 }

-- "past values .. hold only zeros (−0 counts)"
unfoldable pub section_at_rest : Section → Bool
section_at_rest s = eq s.x1 nought && eq s.x2 nought && eq s.y1 nought && eq s.y2 nought

-- an order-4 low-pass: the second section takes the first's output
unfoldable pub lowpass_step : Lowpass → Float → Lowpass
lowpass_step l x =
    let first = section_step l.first x in
    record { first = first; second = section_step l.second first.y1 }

unfoldable pub lowpass_at_rest : Lowpass → Bool
lowpass_at_rest l = section_at_rest l.first && section_at_rest l.second
