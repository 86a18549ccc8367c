-- A step of TANH's continued fraction turns the order round, rounding included. So every later convergent lies between the kth and the one after it, and where these are one float every later one is that float.
-- Assumes nothing.
use Rattle.std.proofs.Common.{◌≡◌, ℕ, zero, suc, ◌+◌, ◌-◌, ◌*◌, ◌<◌, true, false, not, T, ◌⊎◌, ℤ, pos, sym, refl, ap, inl, inr, true≢false, add-zero, add-one, arith, pow_pos}
use lib.Ieee.{Float, nan, inf, fin, binary64, of_int, of_bits, le, eq, fits, is_nan}
use lib.Ieee.Fits.{add-fits, of_int-fits}
use lib.Ieee.Order.{round_mono}
use lib.Ieee.Positive.{above, above_of_le}
use Rattle.casts.specs.Arithmetic.{◌⊘◌, whole}
use Rattle.casts.specs.Order.{le_trans_any, le_refl_any}
use Rattle.casts.specs.Same.{unsigned, eq→same, le_antisym_same}
use Rattle.elementary.specs.Elementary.{down, tanh_step, eighty_one}
use Rattle.elementary.specs.Convergent.{convergent}
use Rattle.elementary.proofs.Ordered.{quotient_unsigned, quotient_falls, sum_grows, sum_from, over_nan, nan_over, plus_nan, inf_over}

-- ---- what every t is: above 0, and an f64
above_unsigned : (x : Float) → T (above x) → T (unsigned x)
above_unsigned nan p = p
above_unsigned (inf s) p = p
above_unsigned (fin true m e) p = p
above_unsigned (fin false m e) p = tt

above_clean : (x : Float) → T (above x) → T (not (is_nan x))
unfolding is_nan
above_clean nan p = p
above_clean (inf s) p = tt
above_clean (fin s m e) p = tt

one_first : (n : ℕ) → 0 < n → T (le (whole 1) (whole n))
unfolding of_int
one_first n h = round_mono binary64 1 1 n 1 (pow_pos 0) (pow_pos 0) (omega arith)

from_one : (x : Float) → T (le (whole 1) x) → T (above x)
from_one x h = above_of_le (whole 1) x (unfold of_int in tt) h

record Term (t : Float) : Type 0 where
  up : T (above t)
  fit : T (fits binary64 t)

-- x lies between a and b, whichever is the larger
Between : Float → Float → Float → Type 0
Between a x b = (T (le a x) × T (le x b)) ⊎ (T (le b x) × T (le x a))

squeezed : (a x b : Float) → Term a → Term x → a ≡ b → Between a x b → x ≡ a
unfolding Between
squeezed a x b p q e h = elim h [ inl k ↦ meet k.0 (rw e k.1) | inr k ↦ meet (rw e k.0) k.1 ]
  where
    meet : T (le a x) → T (le x a) → x ≡ a
    meet l r = le_antisym_same binary64 x a q.fit p.fit (above_unsigned x q.up) (above_unsigned a p.up) r l

whole_term : (n : ℕ) → 0 < n → Term (whole n)
whole_term n h = record { up = from_one (whole n) (one_first n h); fit = of_int-fits binary64 (pos n) }

-- ---- one step, z being finite and not negative
module _ (m : ℕ) (e : ℤ) where
  step : ℕ → Float → Float
  step = tanh_step (fin false m e)

  module _ (i : ℕ) (some : 0 < i) where
    odd : Term (whole (2 * i - 1))
    odd = whole_term (2 * i - 1) (omega arith)

    step_from : (t : Float) → Term t → T (le (whole (2 * i - 1)) (step i t))
    unfolding step
    step_from t l = sum_from (whole (2 * i - 1)) (fin false m e ⊘ t) odd.up odd.fit (quotient_unsigned m e t l.up)

    step_term : (t : Float) → Term t → Term (step i t)
    unfolding step
    step_term t l =
        record {
          up = from_one (step i t) (le_trans_any (whole 1) (whole (2 * i - 1)) (step i t) (one_first (2 * i - 1) (omega arith)) (step_from t l));
          fit = add-fits binary64 (whole (2 * i - 1)) (fin false m e ⊘ t);
        }

    step_turns : (t t' : Float) → Term t → Term t' → T (le t t') → T (le (step i t') (step i t))
    unfolding step
    step_turns t t' l l' h =
        sum_grows (whole (2 * i - 1)) (fin false m e ⊘ t') (fin false m e ⊘ t) odd.up (quotient_unsigned m e t' l'.up) (quotient_unsigned m e t l.up) (quotient_falls m e t t' l.up l'.up h)

    step_between : (a t b : Float) → Term a → Term t → Term b → Between a t b → Between (step i a) (step i t) (step i b)
    unfolding Between
    step_between a t b p q r h =
        elim h [ inl k ↦ inr (step_turns t b q r k.1, step_turns a t p q k.0) | inr k ↦ inl (step_turns t a q p k.1, step_turns b t r q k.0) ]

  -- ---- n steps
  steps_term : (n : ℕ) (t : Float) → Term t → Term (down step n t)
  unfolding down
  steps_term zero t l = l
  steps_term (suc n) t l = steps_term n (step (suc n) t) (step_term (suc n) (omega arith) t l)

  steps_between : (n : ℕ) (a t b : Float) → Term a → Term t → Term b → Between a t b → Between (down step n a) (down step n t) (down step n b)
  unfolding down
  steps_between zero a t b p q r h = h
  steps_between (suc n) a t b p q r h =
      let some : 0 < suc n = omega arith in
      steps_between n (step (suc n) a) (step (suc n) t) (step (suc n) b) (step_term (suc n) some a p) (step_term (suc n) some t q) (step_term (suc n) some b r)
      (step_between (suc n) some a t b p q r h)

  -- ---- k + 1 steps and d more, from a t that is no less than that convergent begins with
  first : (k : ℕ) → whole (2 * suc k - 1) ≡ whole (2 * k + 1)
  first k = ap whole (omega arith)

  longer : (k d : ℕ) (t : Float) → Term t → T (le (whole (2 * (suc k + d) + 1)) t) → Between (down step k (whole (2 * k + 1))) (down step (suc k + d) t) (down step (suc k) (whole (2 * suc k + 1)))
  unfolding down Between
  longer k zero t l h =
      let some : 0 < suc k = omega arith in
      let low : Term (whole (2 * k + 1)) = whole_term (2 * k + 1) (omega arith) in
      let high : Term (whole (2 * suc k + 1)) = whole_term (2 * suc k + 1) (omega arith) in
      rw add-zero
      (steps_between k (whole (2 * k + 1)) (step (suc k) t) (step (suc k) (whole (2 * suc k + 1))) low (step_term (suc k) some t l) (step_term (suc k) some (whole (2 * suc k + 1)) high)
      (inl (rw first at (step_from (suc k) some t l), step_turns (suc k) some (whole (2 * suc k + 1)) t high l (rw add-zero at h))))
  longer k (suc d) t l h =
      let n : suc k + suc d ≡ suc (suc k + d) = omega arith in
      let some : 0 < suc (suc k + d) = omega arith in
      rw n (longer k d (step (suc (suc k + d)) t) (step_term (suc (suc k + d)) some t l) (rw first at (step_from (suc (suc k + d)) some t l)))

  convergent_term : (n : ℕ) → Term (convergent (fin false m e) n)
  unfolding convergent step
  convergent_term n = steps_term n (whole (2 * n + 1)) (whole_term (2 * n + 1) (omega arith))

  convergent_between : (k d : ℕ) → Between (convergent (fin false m e) k) (convergent (fin false m e) (suc k + d)) (convergent (fin false m e) (suc k))
  unfolding convergent step
  convergent_between k d =
      let l : Term (whole (2 * (suc k + d) + 1)) = whole_term (2 * (suc k + d) + 1) (omega arith) in
      longer k d (whole (2 * (suc k + d) + 1)) l (le_refl_any (whole (2 * (suc k + d) + 1)) (above_clean (whole (2 * (suc k + d) + 1)) l.up))

  convergent_same : (k d : ℕ) → T (eq (convergent (fin false m e) k) (convergent (fin false m e) (suc k))) → convergent (fin false m e) (suc k + d) ≡ convergent (fin false m e) k
  convergent_same k d h =
      let a = convergent_term k in
      let b = convergent_term (suc k) in
      squeezed (convergent (fin false m e) k) (convergent (fin false m e) (suc k + d)) (convergent (fin false m e) (suc k)) a (convergent_term (suc k + d))
      (eq→same binary64 (convergent (fin false m e) k) (convergent (fin false m e) (suc k)) a.fit b.fit (above_unsigned (convergent (fin false m e) k) a.up) (above_unsigned (convergent (fin false m e) (suc k)) b.up) h)
      (convergent_between k d)

-- ---- z a NaN or infinite: from the second on every convergent is a NaN
nan_stays : (z : Float) (n : ℕ) → down (tanh_step z) n nan ≡ nan
unfolding down
nan_stays z zero = refl
nan_stays z (suc n) = rw (over_nan, plus_nan) (nan_stays z n)

convergent_nan : (n : ℕ) → convergent nan (suc n) ≡ nan
unfolding convergent down
convergent_nan n = rw (nan_over, plus_nan) (nan_stays nan n)

convergent_inf : (n : ℕ) → convergent (inf false) (suc (suc n)) ≡ nan
unfolding convergent down
convergent_inf n = rw (inf_over, plus_nan) (nan_stays (inf false) n)

-- ---- every z that is a square
pub settled : (z : Float) (k : ℕ) → (T (not (is_nan z)) → T (unsigned z)) → 1 < k → k < 40 → eq (convergent z k) (convergent z (k + 1)) ≡ true → convergent z k ≡ convergent z 40
unfolding is_nan eq
settled z zero u h b e = absurd (omega arith)
settled z (suc zero) u h b e = absurd (omega arith)
settled nan (suc (suc k)) u h b e = absurd (true≢false (sym (rw convergent_nan at e)))
settled (inf true) (suc (suc k)) u h b e = absurd (u tt)
settled (inf false) (suc (suc k)) u h b e = absurd (true≢false (sym (rw convergent_inf at e)))
settled (fin true m x) (suc (suc k)) u h b e = absurd (u tt)
settled (fin false m x) (suc (suc k)) u h b e =
    let l : suc (suc (suc k)) + (39 - suc (suc k)) ≡ 40 = omega arith in
    let t : T (eq (convergent (fin false m x) (suc (suc k))) (convergent (fin false m x) (suc (suc k) + 1))) = rw e tt in
    sym (rw l at (convergent_same m x (suc (suc k)) (39 - suc (suc k)) (rw add-one at t)))

-- ---- all 40 steps, from 81 on
from_81 : whole 81 ≡ eighty_one
unfolding of_int of_bits
from_81 = refl

pub convergent_whole : (z : Float) → convergent z 40 ≡ down (tanh_step z) 40 eighty_one
unfolding convergent
convergent_whole z = ap (down (tanh_step z) 40) from_81
