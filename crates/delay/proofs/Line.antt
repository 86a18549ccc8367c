-- A line in its ring: read newest first it is the list of its last R samples. Assumes nothing.
use Rattle.std.proofs.Common.{◌≡◌, ℕ, zero, suc, ◌+◌, ◌-◌, ◌*◌, ◌/◌, ◌%◌, ◌^◌, ◌<◌, ◌≤◌, ◌⊎◌, List, ◌∷◌, length, get_or, take, sym, refl, ap, ◌∙◌, ⊎_elim, mod-lt, mod-eq_of_lt, arith, length-set, get_or-set_other, get_or-set_same}
use native.Mathlib.Nat.{mod-eq-sub-mod, mod-add-mod, mod-mod_of_dvd, dvd_of_mod-eq-zero, add-mul-mod_self_left, div-add-mod}
use native.Mathlib.Decide.{dec_lt}
use lib.Ieee.{Float, nan, to_unsigned}
use Rattle.casts.specs.Arithmetic.{nought}
use Rattle.delay.specs.declared.DelayLine.{DelayLine}
use Rattle.delay.specs.Delay.{back, store_push, store_tap, line_push, line_at, line_tap, line_of, history, push_of, at_of, tap_of, not_above, not_below, Usable}
use Rattle.delay.proofs.Whole.{held_whole}

-- less than a whole turn of a ring comes to another place
no_turn : (w e r : ℕ) → w < r → 0 < e → e < r → (w + e) % r ≡ w → ⊥
no_turn w e r h p l q =
    elim (dec_lt (w + e) r) [
      | yes i ↦ let k : (w + e) % r ≡ w + e = mod-eq_of_lt i in omega arith
      | no i ↦
          let g : r ≤ w + e = omega arith in
          let j : w + e - r < r = omega arith in
          let k : (w + e) % r ≡ w + e - r = mod-eq-sub-mod g ∙ mod-eq_of_lt j in
          omega arith
    ]

-- a ring of suc q places, a power of two
module _ (base q : ℕ) (small : suc q ≤ 65536) (even : 2 ^ 64 % suc q ≡ 0) where
  back_first : (n : ℕ) → back (n + 1) 0 % suc q ≡ n % suc q
  back_first n =
      let e : n + 1 + (2 ^ 64 - (0 + 1)) ≡ n + 2 ^ 64 = omega arith in
      mod-mod_of_dvd (suc q) (n + 1 + (2 ^ 64 - (0 + 1))) (dvd_of_mod-eq-zero (suc q) even)
      ∙ ap (λ (m : ℕ). m % suc q) e
      ∙ ap (λ (m : ℕ). (n + m) % suc q) (sym (div-add-mod (2 ^ 64) (suc q)) ∙ ap (λ (m : ℕ). suc q * (2 ^ 64 / suc q) + m) even)
      ∙ ap (λ (m : ℕ). (n + m) % suc q) (let f : suc q * (2 ^ 64 / suc q) + 0 ≡ suc q * (2 ^ 64 / suc q) = omega arith in f)
      ∙ add-mul-mod_self_left n (suc q) (2 ^ 64 / suc q)

  back_next : (n d : ℕ) → d < suc q → back (n + 1) (d + 1) ≡ back n d
  back_next n d h =
      let e : n + 1 + (2 ^ 64 - (d + 1 + 1)) ≡ n + (2 ^ 64 - (d + 1)) = omega arith in
      ap (λ (m : ℕ). m % 2 ^ 64) e

  apart : (n d : ℕ) → d + 1 < suc q → back n d % suc q ≡ n % suc q → ⊥
  apart n d h e =
      let m : ℕ = n + (2 ^ 64 - (d + 1)) in
      let a : m % suc q ≡ n % suc q = sym (mod-mod_of_dvd (suc q) m (dvd_of_mod-eq-zero (suc q) even)) ∙ e in
      let s : m + (d + 1) ≡ n + 1 + (2 ^ 64 - (0 + 1)) = omega arith in
      let b : (m + (d + 1)) % suc q ≡ n % suc q =
      ap (λ (k : ℕ). k % suc q) s ∙ sym (mod-mod_of_dvd (suc q) (n + 1 + (2 ^ 64 - (0 + 1))) (dvd_of_mod-eq-zero (suc q) even)) ∙ back_first n in
      let f : (m % suc q + (d + 1)) % suc q ≡ m % suc q = mod-add-mod m (suc q) (d + 1) ∙ b ∙ sym a in
      no_turn (m % suc q) (d + 1) (suc q) (mod-lt m (omega arith)) (omega arith) h f

  module _ (s : List Float) (n : ℕ) (x : Float) (room : base + suc q ≤ length s) where
    tap_new : store_tap base (suc q) (store_push base (suc q) s n x) (n + 1) 0 ≡ x
    unfolding store_tap store_push
    tap_new =
        let h : n % suc q < suc q = mod-lt n (omega arith) in
        rw (back_first n) (get_or-set_same s (base + n % suc q) x nan (omega arith))

    tap_old : (d : ℕ) → d + 1 < suc q → store_tap base (suc q) (store_push base (suc q) s n x) (n + 1) (d + 1) ≡ store_tap base (suc q) s n d
    unfolding store_tap store_push
    tap_old d h =
        rw (back_next n d (omega arith))
        (get_or-set_other s (base + n % suc q) (base + back n d % suc q) x nan (λ e. apart n d h (let f : back n d % suc q ≡ n % suc q = omega arith in f)))

    history_old : (c d : ℕ) → d + c < suc q → history base (suc q) (store_push base (suc q) s n x) (n + 1) c (d + 1) ≡ history base (suc q) s n c d
    unfolding history
    history_old zero d h = refl
    history_old (suc c) d h = rw (tap_old d (omega arith), history_old c (d + 1) (omega arith))

    history_take : (c d : ℕ) → take c (history base (suc q) s n (suc c) d) ≡ history base (suc q) s n c d
    unfolding history
    history_take zero d = refl
    history_take (suc c) d = ap (λ (l : List Float). store_tap base (suc q) s n d ∷ l) (history_take c (d + 1))

    push_suc : history base (suc q) (store_push base (suc q) s n x) (n + 1) (suc q) 0 ≡ push_of (suc q) (history base (suc q) s n (suc q) 0) x
    unfolding history
    push_suc = rw (tap_new, history_old q 0 (omega arith), history_take q 0)

pub history_push : (base r : ℕ) → 0 < r → r ≤ 65536 → 2 ^ 64 % r ≡ 0 → (s : List Float) (n : ℕ) (x : Float) → base + r ≤ length s
    → history base r (store_push base r s n x) (n + 1) r 0 ≡ push_of r (history base r s n r 0) x
history_push base zero p small even s n x room = absurd (omega arith)
history_push base (suc q) p small even s n x room = push_suc base q small even s n x room

pub history_at : (base r : ℕ) (s : List Float) (n c d i : ℕ) → i < c → get_or (history base r s n c d) i nan ≡ store_tap base r s n (d + i)
unfolding history
history_at base r s n zero d i h = absurd (omega arith)
history_at base r s n (suc c) d zero h = let e : d + 0 ≡ d = omega arith in rw e
history_at base r s n (suc c) d (suc i) h = history_at base r s n c (d + 1) i (omega arith) ∙ (let e : d + 1 + i ≡ d + suc i = omega arith in rw e)

pub history_length : (base r : ℕ) (s : List Float) (n c d : ℕ) → length (history base r s n c d) ≡ c
unfolding history
history_length base r s n zero d = refl
history_length base r s n (suc c) d = ap suc (history_length base r s n c (d + 1))

-- the frame: a push into one line is not seen by another, which ends where it begins or begins where it ends
pub tap_push_other : (base r base' r' : ℕ) (s : List Float) (n m d : ℕ) (x : Float) → 0 < r → 0 < r' → (base + r ≤ base') ⊎ (base' + r' ≤ base)
    → store_tap base' r' (store_push base r s n x) m d ≡ store_tap base' r' s m d
unfolding store_tap store_push
tap_push_other base r base' r' s n m d x p p' apart =
    let h : n % r < r = mod-lt n p in
    let h' : back m d % r' < r' = mod-lt (back m d) p' in
    get_or-set_other s (base + n % r) (base' + back m d % r') x nan (λ e. ⊎_elim (λ w. omega arith) (λ w. omega arith) apart)

pub history_push_other : (base r base' r' : ℕ) (s : List Float) (n m c d : ℕ) (x : Float) → 0 < r → 0 < r' → (base + r ≤ base') ⊎ (base' + r' ≤ base)
    → history base' r' (store_push base r s n x) m c d ≡ history base' r' s m c d
unfolding history
history_push_other base r base' r' s n m zero d x p p' apart = refl
history_push_other base r base' r' s n m (suc c) d x p p' apart =
    rw (tap_push_other base r base' r' s n m d x p p' apart, history_push_other base r base' r' s n m c (d + 1) x p p' apart)

-- ---- the same of a line

abbrev pub Apart : DelayLine → DelayLine → Type 0
Apart l m = (l.at + l.ring ≤ m.at) ⊎ (m.at + m.ring ≤ l.at)

pub push_length : (l : DelayLine) (s : List Float) (n : ℕ) (x : Float) → length (line_push l s n x) ≡ length s
unfolding store_push
push_length l s n x = length-set s (l.at + n % l.ring) x

module _ (l : DelayLine) (u : Usable l) (s : List Float) (n : ℕ) where
  pub line_push_lem : (x : Float) → l.at + l.ring ≤ length s → line_of l (line_push l s n x) (n + 1) ≡ push_of l.ring (line_of l s n) x
  line_push_lem x room = history_push l.at l.ring u.some u.small u.even s n x room

  pub line_push_other : (m : DelayLine) (k : ℕ) (x : Float) → Usable m → Apart m l → line_of l (line_push m s k x) n ≡ line_of l s n
  line_push_other m k x v apart = history_push_other m.at m.ring l.at l.ring s k n l.ring 0 x v.some u.some apart

  pub line_at_lem : (d : ℕ) → d < l.ring → at_of (line_of l s n) d ≡ line_at l s n d
  line_at_lem d h = history_at l.at l.ring s n l.ring 0 d h ∙ (let e : 0 + d ≡ d = omega arith in rw e)

  pub line_tap_lem : (most delay : Float) → to_unsigned 64 most + 1 < l.ring → tap_of (at_of (line_of l s n)) most delay ≡ line_tap l s n most delay
  unfolding tap_of
  line_tap_lem most delay h =
      let d : Float = not_above (not_below delay nought) most in
      let k : to_unsigned 64 d ≤ to_unsigned 64 most = held_whole (not_below delay nought) most in
      rw (line_at_lem (to_unsigned 64 d) (omega arith), line_at_lem (to_unsigned 64 d + 1) (omega arith))
