-- The definitions' cases, as the code comes to them. Assumes nothing.
use Rattle.std.proofs.Common.{◌≡◌, ℕ, zero, suc, ◌-◌, ◌<◌, ◌≤◌, Bool, true, false, sym, refl, ap, ◌∙◌, arith}
use Rattle.std.proofs.Common.{◌*◌, T}
use lib.Ieee.{Float, nan, inf, fin, up, down, lt, le, neg}
use Rattle.casts.specs.Arithmetic.{nought, size_of}
use Rattle.casts.specs.Order.{says_le}
use Rattle.rate.specs.Ceiling.{plain}
use Rattle.master.specs.Kept.{count_down}

-- ---- the size
pub size_else : (x : Float) → lt x nought ≡ false → x ≡ size_of x
unfolding size_of
size_else x h = rw h

-- ---- the pops
pub down_one : (t : ℕ → Bool) (k : ℕ) → 0 < k → t (k - 1) ≡ true → count_down t k ≡ count_down t (k - 1)
unfolding count_down
down_one t zero h e = refl
down_one t (suc k) h e = let p : suc k - 1 ≡ k = omega arith in let q : t k ≡ true = ap t (sym p) ∙ e in rw (q, p)

pub down_stop : (t : ℕ → Bool) (k : ℕ) → 0 < k → t (k - 1) ≡ false → k ≡ count_down t k
unfolding count_down
down_stop t zero h e = refl
down_stop t (suc k) h e = let p : suc k - 1 ≡ k = omega arith in let q : t k ≡ false = ap t (sym p) ∙ e in rw q

pub down_none : (t : ℕ → Bool) (k : ℕ) → k ≤ 0 → k ≡ count_down t k
unfolding count_down
down_none t zero h = refl
down_none t (suc k) h = let e : ◌≡◌ {A = ℕ} 0 1 = omega arith in absurd (omega arith)

pub count_down_same : (t u : ℕ → Bool) (k : ℕ) → ((j : ℕ) → j < k → t j ≡ u j) → count_down t k ≡ count_down u k
unfolding count_down
count_down_same t u zero h = refl
count_down_same t u (suc k) h = rw (h k (omega arith), count_down_same t u k (λ j g. h j (omega arith)))

-- ---- the clamp's two ends
pub minus_below : (x : Float) → T (plain x) → T (le (neg x) x)
unfolding le neg
minus_below nan p = absurd p
minus_below (inf s) p = absurd p
minus_below (fin true m e) p = absurd p
minus_below (fin false m e) p = says_le true (m * up e * down e) false (m * up e * down e) tt
