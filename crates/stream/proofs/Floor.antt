-- Flush by the exponent's field: 2^-64 is the least size with the field 959. Assumes nothing.
use mathlib.Core.Path.{◌≡◌, refl, sym, ap, ◌∙◌, subst}
use Prim.Native.Nat.{ℕ, suc, ◌+◌, ◌*◌, ◌/◌, ◌%◌, ◌^◌, ◌≤◌, ◌<◌}
use native.Mathlib.Omega.{arith}
use mathlib.Core.Bool.{Bool, true, false, not, cond, true≢false}
use lib.Dec.{T, ltb, lit≤}
use borrow.Author.Tests.{lt-ltb, le-ltb, ltb-false}
use lib.Ieee.{Float, nan, inf, fin, binary64, low, up, down, hid, top, round, neg, lt, is_nan, of_bits, to_bits, fits}
use lib.Ieee.Fits.{cond-fits, down_pos}
use lib.Ieee.Bits.{of_bits-fits}
use lib.Ieee.Exact.{HasValue}
use Rattle.casts.specs.Arithmetic.{nought, one, size_of}
use Rattle.casts.specs.Least.{min_f}
use Rattle.casts.specs.Order.{lt→le, le_clean_left}
use Rattle.casts.proofs.Field.{size_lt, field_below}
use Rattle.stream.specs.Stream.{flush_floor, flushed}

-- the field below that of 2^-64, and how many times 2^-64 is 1
abbrev lower : ℕ
lower = 958

abbrev times : ℕ
times = 2 ^ 64

-- 2^-64 is 2^52 · 2^958 times 2^-1074, the least f64 above 0
floor_value : HasValue flush_floor false (hid binary64 * 2 ^ lower) (2 ^ low binary64)
unfolding round
floor_value = (refl, refl)

-- ---- 1 stands in for a NaN and for all above 1: none of these is flushed
one_stays : lt (size_of one) flush_floor ≡ false
unfolding size_of lt neg of_bits round
one_stays = refl

more_stays : (v : Float) → lt v one ≡ false → lt (size_of v) flush_floor ≡ false
unfolding size_of lt neg of_bits round
more_stays nan h = refl
more_stays (inf true) h = absurd (true≢false h)
more_stays (inf false) h = refl
more_stays (fin true m e) h = absurd (true≢false (sym (lt-ltb 0 (m * up e * 1 + 1 * down e) (above (m * up e * 1) (down e) (down_pos e))) ∙ h))
  where
    above : (a d : ℕ) → 0 < d → 0 < a + 1 * d
    above a d D = omega arith
more_stays (fin false m e) h = size_lt false m e 1 _ ∙ le-ltb (m * up e * times) (1 * down e) (more (m * up e) (down e) (ltb-false (m * up e * 1) (1 * down e) h))
  where
    more : (a d : ℕ) → 1 * d ≤ a * 1 → 1 * d ≤ a * times
    more a d h = omega arith

same_test : (v : Float) → lt (size_of (min_f one v)) flush_floor ≡ lt (size_of v) flush_floor
same_test v = go (lt v one) refl
  where
    go : (b : Bool) → lt v one ≡ b → lt (size_of (cond b v one)) flush_floor ≡ lt (size_of v) flush_floor
    go true h = refl
    go false h = one_stays ∙ sym (more_stays v h)

-- where what stands in is no NaN, neither is the lesser of it and v, so its bits can be read
pub no_nan : (a v : Float) → T (not (is_nan a)) → T (not (is_nan (min_f a v)))
no_nan a v n = go (lt v a) refl
  where
    go : (b : Bool) → lt v a ≡ b → T (not (is_nan (cond b v a)))
    go true h = le_clean_left v a (lt→le v a (subst T (sym h) tt))
    go false h = n

-- ---- the field, as the code takes it
abbrev field : Float → ℕ
field w = to_bits binary64 w / 4503599627370496 % 2048

module _ (v w : Float) (t : T (fits binary64 v)) (e : w ≡ min_f one v) where
  by_field : ltb (field w) (suc lower) ≡ lt (size_of v) flush_floor
  by_field =
      ap (λ (x : Float). ltb (field x) (suc lower)) e
      ∙ ap (λ (x : ℕ). ltb x (suc lower)) (sym (same (to_bits binary64 (min_f one v))))
      ∙ sym (field_below binary64 flush_floor lower (lit≤ tt) floor_value (min_f one v) (cond-fits binary64 (lt v one) v one t (of_bits-fits binary64 0x3ff0_0000_0000_0000)))
      ∙ same_test v
    where
      same : (b : ℕ) → b % top binary64 / hid binary64 ≡ b / 4503599627370496 % 2048
      same b = omega arith

  pub flushes : field w < suc lower → nought ≡ flushed v
  unfolding flushed
  flushes h = ap (λ (b : Bool). cond b nought v) (sym (lt-ltb (field w) (suc lower) h) ∙ by_field)

  pub stays : suc lower ≤ field w → v ≡ flushed v
  unfolding flushed
  stays h = ap (λ (b : Bool). cond b nought v) (sym (le-ltb (field w) (suc lower) h) ∙ by_field)
