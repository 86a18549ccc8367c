-- A number that shares no digit with the one below it is a power of two, and then the one below it masks what a division leaves. Assumes nothing.
use Rattle.std.proofs.Common.{◌≡◌, ℕ, zero, suc, ◌+◌, ◌-◌, ◌*◌, ◌/◌, ◌%◌, ◌<◌, ◌≤◌, min, ◌⊎◌, sym, ap, ◌∙◌, subst, ap₂, inl, inr, le_refl, arith}
use native.Mathlib.Nat.{min-eq_left, mod-one}
use lib.Arith.{mod-mul}
use lib.Bits.{bit_and, and_step, and_self, and_zero_r}

parity : (a : ℕ) → (a % 2 ≡ 0) ⊎ (a % 2 ≡ 1)
parity a = go (a % 2) (lt a)
  where
    lt : (a : ℕ) → a % 2 < 2
    lt a = omega arith

    go : (r : ℕ) → r < 2 → (r ≡ 0) ⊎ (r ≡ 1)
    go zero h = inl (omega arith)
    go (suc r) h = inr (omega arith)

-- the double of b: a digit more
twice : (a n : ℕ) → 0 < a → a % 2 ≡ 0 → bit_and (n / 2) (a / 2 - 1) ≡ n / 2 % (a / 2) → bit_and n (a - 1) ≡ n % a
twice a n p e h =
    and_step n (a - 1)
    ∙ ap₂ (λ (x y : ℕ). bit_and (n / 2) x * 2 + min (n % 2) y) (half a p e) (odd a p e)
    ∙ ap₂ (λ (x y : ℕ). x * 2 + y) h (min-eq_left (least n))
    ∙ sym (ap (λ (x : ℕ). n % x) (whole a e) ∙ mod-mul n (pos a p e) (omega arith))
  where
    half : (a : ℕ) → 0 < a → a % 2 ≡ 0 → (a - 1) / 2 ≡ a / 2 - 1
    half a p e = omega arith

    odd : (a : ℕ) → 0 < a → a % 2 ≡ 0 → (a - 1) % 2 ≡ 1
    odd a p e = omega arith

    least : (n : ℕ) → n % 2 ≤ 1
    least n = omega arith

    whole : (a : ℕ) → a % 2 ≡ 0 → a ≡ a / 2 * 2
    whole a e = omega arith

    pos : (a : ℕ) → 0 < a → a % 2 ≡ 0 → 0 < a / 2
    pos a p e = omega arith

masks : (k a n : ℕ) → a ≤ k → 0 < a → bit_and a (a - 1) ≡ 0 → bit_and n (a - 1) ≡ n % a
masks zero a n l p e = absurd (none a l p)
  where
    none : (a : ℕ) → a ≤ 0 → 0 < a → ⊥
    none a l p = omega arith
masks (suc k) a n l p e = elim (parity a) [
  | inl h ↦ twice a n p h (masks k (a / 2) (n / 2) (less a k l p h) (pos a p h) (subst (λ (x : ℕ). bit_and (a / 2) x ≡ 0) (half a p h) upper))
  | inr h ↦
      ap (λ (x : ℕ). bit_and n (x - 1)) (one a h (sym (and_self (a / 2)) ∙ subst (λ (x : ℕ). bit_and (a / 2) x ≡ 0) (same a h) upper))
      ∙ and_zero_r n
      ∙ sym (ap (λ (x : ℕ). n % x) (one a h (sym (and_self (a / 2)) ∙ subst (λ (x : ℕ). bit_and (a / 2) x ≡ 0) (same a h) upper)) ∙ mod-one n)
]
  where
    nought : (x y : ℕ) → x * 2 + y ≡ 0 → x ≡ 0
    nought x y h = omega arith

    -- the digits above the last
    upper : bit_and (a / 2) ((a - 1) / 2) ≡ 0
    upper = nought (bit_and (a / 2) ((a - 1) / 2)) (min (a % 2) ((a - 1) % 2)) (sym (and_step a (a - 1)) ∙ e)

    half : (a : ℕ) → 0 < a → a % 2 ≡ 0 → (a - 1) / 2 ≡ a / 2 - 1
    half a p e = omega arith

    same : (a : ℕ) → a % 2 ≡ 1 → (a - 1) / 2 ≡ a / 2
    same a e = omega arith

    one : (a : ℕ) → a % 2 ≡ 1 → a / 2 ≡ 0 → a ≡ 1
    one a e h = omega arith

    pos : (a : ℕ) → 0 < a → a % 2 ≡ 0 → 0 < a / 2
    pos a p e = omega arith

    less : (a k : ℕ) → a ≤ suc k → 0 < a → a % 2 ≡ 0 → a / 2 ≤ k
    less a k l p e = omega arith

pub masked : (a n : ℕ) → 0 < a → bit_and a (a - 1) ≡ 0 → bit_and n (a - 1) ≡ n % a
masked a n p e = masks a a n (le_refl a) p e
