-- The Audio EQ Cookbook's sections and the Butterworth Qs, in the Rust's order of operations, as functions of the rate in Hz. Definitions only.
use Rattle.std.specs.Prelude.{ℕ, Float}
use Rattle.std.specs.Float.Ieee.{neg}
use Rattle.casts.specs.Arithmetic.{◌⊕◌, ◌⊖◌, ◌⊗◌, ◌⊘◌, whole, nought, one, two}
use Rattle.elementary.specs.Elementary.{SIN, COS, SINH, SQRT7200, LOG2·2, midpoint, TAU, PI, LN2}
use Rattle.biquad.specs.declared.Coefficients.{Coefficients}
use Rattle.biquad.specs.declared.Lowpass.{Lowpass}
use Rattle.biquad.specs.Section.{retuned}

-- b0, b1, b2, a0, a1, a2 over a0
unfoldable pub normalized : Float → Float → Float → Float → Float → Float → Coefficients
normalized b0 b1 b2 a0 a1 a2 = record { b0 = b0 ⊘ a0; b1 = b1 ⊘ a0; b2 = b2 ⊘ a0; a1 = a1 ⊘ a0; a2 = a2 ⊘ a0 }

-- w0 = 2π·f0/Fs
unfoldable pub angle_of : Float → ℕ → Float
angle_of hz rate = TAU ⊗ hz ⊘ whole rate

-- LPF, of the sine and cosine of w0: α = sin/(2Q); b0 = b2 = (1 − cos)/2, b1 = 1 − cos, a0 = 1 + α, a1 = −2·cos, a2 = 1 − α
unfoldable pub lpf : Float → Float → Float → Coefficients
lpf sin cos q =
    let alpha = sin ⊘ (two ⊗ q) in
    let b0 = (one ⊖ cos) ⊘ two in
    normalized b0 (one ⊖ cos) b0 (one ⊕ alpha) (neg two ⊗ cos) (one ⊖ alpha)

-- HPF: α as above; b0 = b2 = (1 + cos)/2, b1 = −(1 + cos), a0 = 1 + α, a1 = −2·cos, a2 = 1 − α
unfoldable pub hpf : Float → Float → Float → Coefficients
hpf sin cos q =
    let alpha = sin ⊘ (two ⊗ q) in
    let b0 = midpoint one cos in
    normalized b0 (neg (one ⊕ cos)) b0 (one ⊕ alpha) (neg two ⊗ cos) (one ⊖ alpha)

-- BPF of constant 0 dB peak gain: α = sin·sinh(ln 2/2 · octaves · w0/sin); b0 = α, b1 = 0, b2 = −α, a0 = 1 + α, a1 = −2·cos, a2 = 1 − α
unfoldable pub bpf : Float → Float → Float → Float → Coefficients
bpf w0 sin cos octaves =
    let alpha = sin ⊗ SINH (LN2 ⊘ two ⊗ octaves ⊗ w0 ⊘ sin) in
    normalized alpha nought (neg alpha) (one ⊕ alpha) (neg two ⊗ cos) (one ⊖ alpha)

unfoldable pub lowpass_at : Float → Float → ℕ → Coefficients
lowpass_at hz q rate = let w0 = angle_of hz rate in lpf (SIN w0) (COS w0) q

unfoldable pub highpass_at : Float → Float → ℕ → Coefficients
highpass_at hz q rate = let w0 = angle_of hz rate in hpf (SIN w0) (COS w0) q

-- "the 60 to 120 Hz band": its middle is sqrt(60·120) = sqrt(7200) Hz, and it is log2(120/60) = 1 octave wide
unfoldable pub bandpass_at : ℕ → Coefficients
bandpass_at rate = let w0 = angle_of SQRT7200 rate in bpf w0 (SIN w0) (COS w0) LOG2·2

-- the Q of section k of a Butterworth filter of order n: −1/(2·cos((2k + n − 1)π/2n))
unfoldable pub butter_q : ℕ → ℕ → Float
butter_q k n = neg one ⊘ (two ⊗ COS ((two ⊗ whole k ⊕ whole n ⊖ one) ⊗ PI ⊘ (two ⊗ whole n)))

-- an order-4 low-pass moved to a corner, its section 1 of Q 1.307 and its section 2 of Q 0.541: "new coefficients keep the past"
unfoldable pub lowpass_retuned : Lowpass → Float → ℕ → Lowpass
lowpass_retuned l hz rate =
    record { first = retuned l.first (lowpass_at hz (butter_q 1 4) rate); second = retuned l.second (lowpass_at hz (butter_q 2 4) rate) }
