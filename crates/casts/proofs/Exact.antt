-- What a format holds, rounded to the format, is itself. Assumes nothing.
use Rattle.std.proofs.Common.{◌≡◌, ℕ, zero, suc, ◌+◌, ◌-◌, ◌*◌, ◌%◌, ◌^◌, ◌<◌, ◌≤◌, Bool, ◌&&◌, T, eqb, ltb, leb, ℤ, pos, negsuc, sym, refl, ap, ◌∙◌, subst, lt_of_lt_of_le, lt_irrefl, mul_assoc, add_comm, mul-lt-mul_of_pos_right, zero-mul, mul-one, sub-add_cancel, arith, ltb→lt, leb→le, pow_pos, pow_mono, pow-add, shl_lt}
use lib.Pow.{pow-lt}
use lib.Ieee.{fin, Format, prec, emax, low, up, down, round, fits}
use lib.Ieee.Fits.{down_pos, and_l, and_r, reach, round-fits}
use lib.Ieee.Exact.{HasValue, round_exact}
use Rattle.casts.specs.Same.{same_value}

-- of a value that fits and is not 0: its digits are few, and so are the places below 1
pub few_digits : (f : Format) (s : Bool) (m : ℕ) (e : ℤ) → T (fits f (fin s (suc m) e)) → suc m < 2 ^ prec f
unfolding fits
few_digits f s m e t =
    ltb→lt (suc m) (2 ^ prec f) (and_r (eqb (suc m % 2) 1) (ltb (suc m) (2 ^ prec f)) (and_l (eqb (suc m % 2) 1 && ltb (suc m) (2 ^ prec f)) (leb (down e) (2 ^ low f))
    (and_l (eqb (suc m % 2) 1 && ltb (suc m) (2 ^ prec f) && leb (down e) (2 ^ low f)) (ltb (suc m * up e) (2 ^ suc (emax f) * down e)) t)))

pub few_places : (f : Format) (s : Bool) (m : ℕ) (e : ℤ) → T (fits f (fin s (suc m) e)) → down e ≤ 2 ^ low f
unfolding fits
few_places f s m e t =
    leb→le (down e) (2 ^ low f) (and_r (eqb (suc m % 2) 1 && ltb (suc m) (2 ^ prec f)) (leb (down e) (2 ^ low f))
    (and_l (eqb (suc m % 2) 1 && ltb (suc m) (2 ^ prec f) && leb (down e) (2 ^ low f)) (ltb (suc m * up e) (2 ^ suc (emax f) * down e)) t))

under_top : (f : Format) (s : Bool) (m : ℕ) (e : ℤ) → T (fits f (fin s (suc m) e)) → suc m * up e < 2 ^ suc (emax f) * down e
unfolding fits
under_top f s m e t =
    ltb→lt (suc m * up e) (2 ^ suc (emax f) * down e) (and_r (eqb (suc m % 2) 1 && ltb (suc m) (2 ^ prec f) && leb (down e) (2 ^ low f)) (ltb (suc m * up e) (2 ^ suc (emax f) * down e)) t)

own_value : (f : Format) (s : Bool) (m : ℕ) (e : ℤ) → T (fits f (fin s m e)) → HasValue (round f s (m * up e) (down e)) s (m * up e) (down e)
own_value f s zero e t =
    round_exact f s (zero * up e) (down e) 0 0 (down_pos e) (pow_pos (prec f)) (pow_pos (low f + suc (emax f)))
    (ap (λ (x : ℕ). x * 2 ^ low f) (zero-mul (up e)) ∙ zero-mul (2 ^ low f) ∙ sym (zero-mul (down e)))
own_value f s (suc m) (pos k) t =
    round_exact f s (suc m * 2 ^ k) 1 (suc m) (k + low f) (down_pos (pos 0)) (few_digits f s m (pos k) t)
    (subst (λ (x : ℕ). x < 2 ^ (low f + suc (emax f))) (together (suc m))
    (lt_of_lt_of_le (mul-lt-mul_of_pos_right (subst (λ (x : ℕ). suc m * 2 ^ k < x) (mul-one (2 ^ suc (emax f))) (under_top f s m (pos k) t)) (pow_pos (low f))) (back (suc (emax f)) (low f))))
    (together (suc m) ∙ sym (mul-one (suc m * 2 ^ (k + low f))))
  where
    together : (q : ℕ) → q * 2 ^ k * 2 ^ low f ≡ q * 2 ^ (k + low f)
    together q = mul_assoc q (2 ^ k) (2 ^ low f) ∙ ap (λ (x : ℕ). q * x) (sym (pow-add 2 k (low f)))

    back : (a b : ℕ) → 2 ^ a * 2 ^ b ≤ 2 ^ (b + a)
    back a b = rw (add_comm b a, pow-add 2 a b) (omega arith)
own_value f s (suc m) (negsuc k) t =
    let few : suc k ≤ low f = places (few_places f s m (negsuc k) t) in
    let j = low f - suc k in
    round_exact f s (suc m * 1) (2 ^ suc k) (suc m) j (pow_pos (suc k)) (few_digits f s m (negsuc k) t)
    (lt_of_lt_of_le (shl_lt (prec f) j (few_digits f s m (negsuc k) t)) (pow_mono (room (prec f) (low f) (suc k) (suc (emax f)) (reach f))))
    (ap (λ (x : ℕ). x * 2 ^ low f) (mul-one (suc m))
    ∙ ap (λ (x : ℕ). suc m * 2 ^ x) (sym (sub-add_cancel few))
    ∙ ap (λ (x : ℕ). suc m * x) (pow-add 2 j (suc k))
    ∙ sym (mul_assoc (suc m) (2 ^ j) (2 ^ suc k)))
  where
    places : 2 ^ suc k ≤ 2 ^ low f → suc k ≤ low f
    places h = le_of_not_lt' (λ (g : low f < suc k). lt_irrefl (2 ^ low f) (lt_of_lt_of_le (pow-lt g) h))
      where
        le_of_not_lt' : (low f < suc k → ⊥) → suc k ≤ low f
        le_of_not_lt' n = omega arith

    room : (p l k x : ℕ) → p ≤ x → p + (l - k) ≤ l + x
    room p l k x h = omega arith

pub round_own : (f : Format) (s : Bool) (m : ℕ) (e : ℤ) → T (fits f (fin s m e)) → round f s (m * up e) (down e) ≡ fin s m e
round_own f s m e t =
    same_value f (round f s (m * up e) (down e)) (fin s m e) s (m * up e) (down e) (down_pos e) (round-fits f s (m * up e) (down e)) t (own_value f s m e t) (refl, refl)
