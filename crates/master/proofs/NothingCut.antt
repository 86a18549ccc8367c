-- At rest nothing is cut (crate strip, specs/Rest.antt): what a ceiling that began fresh delivers next are its waiting frames times a finite gain, and a zero stays zero. Assumes nothing.
use Rattle.std.proofs.Common.{◌≡◌, ℕ, zero, suc, ◌+◌, ◌*◌, ◌^◌, ◌<◌, ◌≤◌, Bool, true, false, ◌||◌, T, eqb, ltb, List, [], ◌∷◌, get_or, take, ℤ, pos, sym, refl, ap, ◌∙◌, subst, le_trans, le_refl, mul-le-mul_right, mul-pos, zero-mul, mul-one, arith, eqb→eq, pow_pos}
use mathlib.Core.Bool.{beq, false≢true}
use lib.Ieee.{Float, nan, inf, fin, binary64, up, down, round, mul, neg, lt, le, eq, of_int, of_bits}
use lib.Ieee.Fits.{down_pos, and_l}
use lib.Ieee.Exact.{HasValue}
use lib.Ieee.Order.{round_mono}
use lib.Ieee.Positive.{num, den, den_pos}
use Rattle.casts.specs.Arithmetic.{◌⊗◌, ◌⊘◌, whole, nought, one}
use Rattle.casts.specs.Cast.{narrowed}
use Rattle.delay.specs.Delay.{all_zero}
use Rattle.stage.specs.Stage.{outs}
use Rattle.rate.specs.declared.CeilingRate.{CeilingRate}
use Rattle.rate.specs.Ceiling.{unit, plain, Usable}
use Rattle.stream.specs.declared.Frame.{Frame}
use Rattle.master.specs.Ceiling.{silence, last_of, sides_of, count_of, late_of, gain_of, multiplied, multiplied_step, clamped, delivered, ceiling_step, waiting_of, ceiling_at_rest}
use Rattle.master.specs.Kept.{frames_out}
use Rattle.master.proofs.Bound.{after, steps_full, zero_round}
use Rattle.master.proofs.Delivered.{frames_are, delivered_after}
use Rattle.master.proofs.Rest.{Zero, past_sided, zero_frames}
use Rattle.master.proofs.Sizes.{plain_nonnegative, plain_not_below, le_sizes, round_one, round_plain}
use Rattle.master.proofs.Under.{div_at}

-- ---- the gain is finite: a quotient of two whole numbers, the lesser by the larger

plain_value : (x : Float) → T (plain x) → HasValue x false (num x) (den x)
plain_value nan p = absurd p
plain_value (inf s) p = absurd p
plain_value (fin true m e) p = absurd p
plain_value (fin false m e) p = (refl, refl)

-- x / y for an x of at most y, and a y of at least 1
quotient_plain : (x y : Float) → T (plain x) → T (plain y) → T (le x y) → T (le one y) → T (plain (x ⊘ y))
unfolding of_bits
quotient_plain x y p q h k =
    let low : 1 * den y ≤ num y * 1 = le_sizes one y tt (plain_nonnegative y q) k in
    let some : 0 < num y = omega (arith, den_pos y) in
    let under : num x * den y ≤ num y * den x = le_sizes x y (plain_nonnegative x p) (plain_nonnegative y q) h in
    rw (div_at binary64 x y (num x) (den x) (num y) (den y) (den_pos x) (den_pos y) some (plain_value x p) (plain_value y q))
    (round_plain (num x * den y) (num y * den x) 1 1 one (mul-pos some (den_pos x)) (pow_pos 0) (omega arith) round_one tt).0

whole_plain : (k : ℕ) → k ≤ 2 ^ 56 → T (plain (whole k))
unfolding of_int round
whole_plain k h = (round_plain k 1 (2 ^ 56) 1 (whole (2 ^ 56)) (pow_pos 0) (pow_pos 0) (mul-le-mul_right 1 h) refl tt).0

-- ---- a zero stays zero, with either sign

zero_size : (s : Bool) (m : ℕ) (e : ℤ) → eq (fin s m e) nought ≡ true → m * up e ≡ 0
unfolding eq of_bits
zero_size s m e h = sym (mul-one (m * up e)) ∙ eqb→eq (m * up e * 1) (0 * down e) (and_l (eqb (m * up e * 1) (0 * down e)) (beq s false || eqb (m * up e * 1) 0) (subst T (sym h) tt)) ∙ zero-mul (down e)

zero_times : (x g : Float) → eq x nought ≡ true → T (plain g) → (s : Bool) × (x ⊗ g ≡ fin s 0 (pos 0))
unfolding mul
zero_times nan g h p = absurd (false≢true (unfold eq in h))
zero_times (inf s) g h p = absurd (false≢true (unfold eq of_bits in h))
zero_times (fin s m e) nan h p = absurd p
zero_times (fin s m e) (inf t) h p = absurd p
zero_times (fin s m e) (fin t n d) h p =
    (_, zero_round _ (m * up e * (n * up d)) (down e * down d) (mul-pos (down_pos e) (down_pos d)) (ap (λ (k : ℕ). k * (n * up d)) (zero_size s m e h) ∙ zero-mul (n * up d)))

-- narrowed, and clamped to a limit that is not below 0
not_below_lem : (m : ℕ) (e : ℤ) → ltb (m * up e * 1) (0 * down e) ≡ false
unfolding lt of_bits
not_below_lem m e = plain_not_below (fin false m e) tt

zero_kept : (limit : Float) → T (plain limit) → (s : Bool) → eq (clamped limit (narrowed (fin s 0 (pos 0)))) nought ≡ true
unfolding clamped narrowed round lt neg eq of_bits
zero_kept nan p s = absurd p
zero_kept (inf t) p s = absurd p
zero_kept (fin true m e) p s = absurd p
zero_kept (fin false m e) p false = rw (not_below_lem m e)
zero_kept (fin false m e) p true = rw (not_below_lem m e)

zero_side : (limit x g : Float) → T (plain limit) → T (plain g) → eq x nought ≡ true → eq (clamped limit (narrowed (x ⊗ g))) nought ≡ true
zero_side limit x g p q h = let z = zero_times x g h q in rw z.1 (zero_kept limit p z.0)

-- ---- what a ceiling that began fresh delivers

module _ (r : CeilingRate) (usable : Usable r) where
  gain_plain : (count : ℕ) → count ≤ suc r.ahead * unit → T (plain (gain_of r count))
  unfolding gain_of of_int of_bits
  gain_plain count h =
      let full : ℕ = suc r.ahead * unit in
      let few : full ≤ 2 ^ 56 = omega (arith, usable.ahead_small) in
      let some : 1 ≤ full = omega arith in
      quotient_plain (whole count) (whole full) (whole_plain count (le_trans h few)) (whole_plain full few) (round_mono binary64 count 1 full 1 (pow_pos 0) (pow_pos 0) (mul-le-mul_right 1 h))
      (subst (λ (x : Float). T (le x (whole full))) round_one (round_mono binary64 1 1 full 1 (pow_pos 0) (pow_pos 0) (mul-le-mul_right 1 some)))

  -- a late frame that is zero is delivered as zero
  zero_delivered : (h : List Frame) → Zero (get_or h r.ahead silence) → let d = delivered_after r (after r h) in (eq d.left nought ≡ true) × (eq d.right nought ≡ true)
  unfolding delivered multiplied count_of late_of
  zero_delivered h z =
      let f : Zero (late_of r (after r h)) = rw (frames_are r usable h) z in
      let g = gain_plain (count_of r (after r h)) (steps_full r usable (suc r.ahead) h) in
      (zero_side r.limit _ _ usable.limit_plain g f.left, zero_side r.limit _ _ usable.limit_plain g f.right)

  -- where the oldest j of the waiting frames are zero, so are the j delivered next
  zeros_next : (j n : ℕ) (h gs : List Frame) → j ≤ r.ahead → ((i : ℕ) → i < r.ahead → r.ahead ≤ i + j → Zero (get_or h i silence))
      → all_zero (take (2 * j) (frames_out (outs (ceiling_step r) n (after r h) gs))) ≡ true
  unfolding all_zero outs frames_out ceiling_step multiplied_step after
  zeros_next zero n h gs l z = refl
  zeros_next (suc j) n h [] l z = let q : 2 * suc j ≡ suc (suc (2 * j)) = omega arith in rw q
  zeros_next (suc j) n h (f ∷ gs) l z =
      let q : 2 * suc j ≡ suc (suc (2 * j)) = omega arith in
      let d = zero_delivered (f ∷ h) (older r.ahead (omega arith) (omega arith)) in
      rw (q, d.0, d.1) (zeros_next j (n + 1) (f ∷ h) gs (omega arith) (λ i b c. older i (omega arith) (omega arith)))
    where
      older : (i : ℕ) → i ≤ r.ahead → r.ahead ≤ i + j → Zero (get_or (f ∷ h) i silence)
      older zero b c = absurd (omega arith)
      older (suc i) b c = z i (omega arith) (omega arith)

  -- after any past that leads to rest, whatever comes in: the frames delivered next, as many as wait
  pub past_uncut : (n : ℕ) (h gs : List Frame) → ceiling_at_rest r (after r h) ≡ true → all_zero (take (2 * r.ahead) (frames_out (outs (ceiling_step r) n (after r h) gs))) ≡ true
  unfolding ceiling_at_rest waiting_of
  past_uncut n h gs e =
      let w : all_zero (sides_of (last_of r.ahead silence h)) ≡ true = rw (frames_are r usable h) at e in
      zeros_next r.ahead n h gs (le_refl r.ahead) (λ i l m. zero_frames _ r.ahead _ (past_sided r.ahead silence h) w i l)
