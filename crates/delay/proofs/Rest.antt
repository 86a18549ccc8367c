-- A list that holds only zeros. Assumes nothing.
use Rattle.std.proofs.Common.{◌≡◌, ℕ, zero, suc, ◌+◌, ◌-◌, ◌%◌, ◌^◌, ◌<◌, ◌≤◌, Bool, true, false, cond, ◌&&◌, ◌⊎◌, List, [], ◌∷◌, ◌++◌, length, get_or, take, drop, replicate, sym, refl, ap, ◌∙◌, inl, inr, ⊎_elim, true≢false, mod-lt, mod-eq_of_lt, arith, length-drop, length-take-le, get_or-drop, get_or-take}
use native.Mathlib.Nat.{mod-eq-sub-mod, mod-add-mod, mod-mod_of_dvd, dvd_of_mod-eq-zero}
use native.Mathlib.Decide.{dec_lt}
use lib.ListN.{get_or-replicate}
use Rattle.std.specs.List.{list_all}
use lib.Ieee.{Float, nan, eq, of_bits}
use Rattle.casts.specs.Arithmetic.{nought}
use Rattle.delay.specs.declared.DelayLine.{DelayLine}
use Rattle.delay.specs.Delay.{back, store_tap, line_of, history, all_zero, Usable}
use Rattle.delay.proofs.Line.{line_at_lem, history_length}

-- as std's test of each element
pub all_zero-list_all : (l : List Float) → list_all (λ x. eq x nought) l ≡ all_zero l
unfolding all_zero
all_zero-list_all [] = refl
all_zero-list_all (x ∷ xs) = go (eq x nought) (all_zero-list_all xs)
  where
    go : (t : Bool) → list_all (λ y. eq y nought) xs ≡ all_zero xs → (t && list_all (λ y. eq y nought) xs) ≡ cond t (all_zero xs) false
    go true e = e
    go false e = refl

-- ---- element by element

all_of : (a b : Bool) → cond a b false ≡ true → (a ≡ true) × (b ≡ true)
all_of true b e = (refl, e)
all_of false b e = absurd (true≢false (sym e))

pub same_truth : (a b : Bool) → (a ≡ true → b ≡ true) → (b ≡ true → a ≡ true) → a ≡ b
same_truth true b f g = sym (f refl)
same_truth false true f g = g refl
same_truth false false f g = refl

pub zero_each : (l : List Float) → all_zero l ≡ true → (i : ℕ) → i < length l → eq (get_or l i nan) nought ≡ true
unfolding all_zero
zero_each [] e i h = absurd (omega arith)
zero_each (x ∷ xs) e zero h = (all_of (eq x nought) (all_zero xs) e).0
zero_each (x ∷ xs) e (suc i) h = zero_each xs (all_of (eq x nought) (all_zero xs) e).1 i (omega arith)

pub each_zero : (l : List Float) → ((i : ℕ) → i < length l → eq (get_or l i nan) nought ≡ true) → all_zero l ≡ true
unfolding all_zero
each_zero [] f = refl
each_zero (x ∷ xs) f = rw (f 0 (omega arith)) (each_zero xs (λ i h. f (suc i) (omega arith)))

pub zero_append : (a b : List Float) → all_zero (a ++ b) ≡ (all_zero a && all_zero b)
unfolding all_zero
zero_append [] b = refl
zero_append (x ∷ xs) b = go (eq x nought) (zero_append xs b)
  where
    go : (t : Bool) → all_zero (xs ++ b) ≡ (all_zero xs && all_zero b) → cond t (all_zero (xs ++ b)) false ≡ (cond t (all_zero xs) false && all_zero b)
    go true e = e
    go false e = refl

-- ---- a line at rest: its R places hold only zeros where its last R samples do

-- the delay at which the place i is read
place_back : (y d b i r : ℕ) → y < r → d < r → b < r → i < r → (y + d) % r ≡ b → (b ≡ i + d) ⊎ (b + r ≡ i + d) → y ≡ i
place_back y d b i r hy hd hb hi e w =
    elim (dec_lt (y + d) r) [
      | yes k ↦ let f : (y + d) % r ≡ y + d = mod-eq_of_lt k in ⊎_elim (λ v. omega arith) (λ v. omega arith) w
      | no k ↦
          let g : r ≤ y + d = omega arith in
          let j : y + d - r < r = omega arith in
          let f : (y + d) % r ≡ y + d - r = mod-eq-sub-mod g ∙ mod-eq_of_lt j in
          ⊎_elim (λ v. omega arith) (λ v. omega arith) w
    ]

module _ (l : DelayLine) (u : Usable l) (s : List Float) (n : ℕ) (room : l.at + l.ring ≤ length s) where
  newest : ℕ
  newest = (n + (2 ^ 64 - 1)) % l.ring

  back_turn : (d : ℕ) → d < l.ring → (back n d % l.ring + d) % l.ring ≡ newest
  unfolding newest
  back_turn d h =
      let small = u.small in
      let e : n + (2 ^ 64 - (d + 1)) + d ≡ n + (2 ^ 64 - 1) = omega arith in
      mod-add-mod (back n d) l.ring d
      ∙ sym (mod-add-mod (back n d) l.ring d)
      ∙ ap (λ (m : ℕ). (m + d) % l.ring) (mod-mod_of_dvd l.ring (n + (2 ^ 64 - (d + 1))) (dvd_of_mod-eq-zero l.ring u.even))
      ∙ mod-add-mod (n + (2 ^ 64 - (d + 1))) l.ring d
      ∙ ap (λ (m : ℕ). m % l.ring) e

  found : (i : ℕ) → i < l.ring → (d : ℕ) × (d < l.ring) × (back n d % l.ring ≡ i)
  unfolding newest
  found i h =
      let b : newest < l.ring = mod-lt (n + (2 ^ 64 - 1)) u.some in
      elim (dec_lt newest i) [
        | yes k ↦
            let d : ℕ = newest + l.ring - i in
            let hd : d < l.ring = omega arith in
            (d, hd, place_back (back n d % l.ring) d newest i l.ring (mod-lt (back n d) u.some) hd b h (back_turn d hd) (inr (omega arith)))
        | no k ↦
            let d : ℕ = newest - i in
            let hd : d < l.ring = omega arith in
            (d, hd, place_back (back n d % l.ring) d newest i l.ring (mod-lt (back n d) u.some) hd b h (back_turn d hd) (inl (omega arith)))
      ]

  places : List Float
  places = take l.ring (drop l.at s)

  places_length : length places ≡ l.ring
  unfolding places
  places_length = length-take-le l.ring (drop l.at s) (rw length-drop (omega arith))

  places_at : (i : ℕ) → i < l.ring → get_or places i nan ≡ get_or s (l.at + i) nan
  unfolding places
  places_at i h = rw (get_or-take, get_or-drop)

  line_length : length (line_of l s n) ≡ l.ring
  line_length = history_length l.at l.ring s n l.ring 0

  read : (d : ℕ) → d < l.ring → get_or (line_of l s n) d nan ≡ get_or places (back n d % l.ring) nan
  unfolding store_tap
  read d h = line_at_lem l u s n d h ∙ sym (places_at (back n d % l.ring) (mod-lt (back n d) u.some))

  pub line_rest : all_zero (line_of l s n) ≡ all_zero (take l.ring (drop l.at s))
  unfolding places
  line_rest =
      same_truth (all_zero (line_of l s n)) (all_zero places)
      (λ e. each_zero places (λ i h.
      let k : i < l.ring = rw places_length at h in
      let w = found i k in
      let v : get_or places i nan ≡ get_or (line_of l s n) w.0 nan = rw (read w.0 w.1, w.2) in
      rw v (zero_each (line_of l s n) e w.0 (rw line_length w.1))))
      (λ e. each_zero (line_of l s n) (λ i h.
      let k : i < l.ring = rw line_length at h in
      rw (read i k) (zero_each places e (back n i % l.ring) (rw places_length (mod-lt (back n i) u.some)))))

-- ---- a line fresh: zeros

module _ (l : DelayLine) (u : Usable l) (k : ℕ) (room : l.at + l.ring ≤ k) (n : ℕ) where
  fresh_from : (c d : ℕ) → history l.at l.ring (replicate k nought) n c d ≡ replicate c nought
  unfolding history store_tap
  fresh_from zero d = refl
  fresh_from (suc c) d =
      let h : back n d % l.ring < l.ring = mod-lt (back n d) u.some in
      rw (get_or-replicate k (l.at + back n d % l.ring) nought nan (omega arith), fresh_from c (d + 1))

  pub line_fresh : line_of l (replicate k nought) n ≡ replicate l.ring nought
  line_fresh = fresh_from l.ring 0

pub zero_fresh : (k : ℕ) → all_zero (replicate k nought) ≡ true
unfolding all_zero eq of_bits
zero_fresh zero = refl
zero_fresh (suc k) = zero_fresh k
