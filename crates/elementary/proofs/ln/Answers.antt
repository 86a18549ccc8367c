-- `elementary::ln` meets its contract. Assumes nothing.
-- the exponent's field, as the machine has it
use Rattle.std.proofs.Common.{◌≡◌, ℕ, ◌+◌, ◌/◌, ◌%◌, ◌^◌, ◌<◌, pos, ◌-ℤ◌, arith, w64, SFits, to_z, rules}
use lib.Ieee.{binary64, of_int, of_bits}
use mir.ValLaws.{to_z_pos, to_z-of_z}
use Rattle.casts.specs.Arithmetic.{◌⊕◌, ◌⊖◌, ◌⊗◌, ◌⊘◌, one}
use Rattle.elementary.specs.Elementary.{LN, ln_step, ln_first, down}
use Rattle.elementary.proofs.Fields.{digits_no_nan, near}
use Rattle.elementary.proofs.ln.Goals as goal

pub float_from_bits-m : goal.float_from_bits-m
float_from_bits-m c = digits_no_nan _

field_is : (b : ℕ) → b < 2 ^ 64 → to_z w64 (b / 2 ^ 52) ≡ pos (b / 2 ^ 52)
field_is b h = to_z_pos w64 (b / 2 ^ 52) (omega arith)

k_fits : (b : ℕ) → b < 2 ^ 64 → SFits w64 (pos (b / 2 ^ 52) -ℤ pos 1023)
k_fits b h = near (b / 2 ^ 52) (omega arith)

pub overflow_sub-b : goal.overflow_sub-b
overflow_sub-b c =
    let b = c.bits_of_f64-b.result in
    rw (field_is b (omega arith)) (k_fits b (omega arith))

pub returns : goal.returns
unfolding LN
returns c =
    let n = c.nearest_i64_to_f64-k in
    let b = c.bits_of_f64-b.result in
    let m = of_bits binary64 (0x3ff0_0000_0000_0000 + b % 0x0010_0000_0000_0000) in
    let y = (m ⊖ one) ⊘ (m ⊕ one) in
    let n-is : n.result ≡ of_int binary64 (pos (b / 2 ^ 52) -ℤ pos 1023) = rw (field_is b (omega arith), to_z-of_z w64 _ (k_fits b (omega arith))) at n.ensures in
    let s : c.stepped-s.result ≡ down (ln_step (y ⊗ y)) 20 ln_first = c.stepped-s.ensures (ln_step (y ⊗ y)) (λ i t r some most p. search rules) in
    rw (← c.bits_of_f64-b.ensures, ← n-is, s)
