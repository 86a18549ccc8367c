-- A frame's peak and need, by exact sizes: neither side's size is above the peak, and need times peak is above the limit by at most one part in 2 ^ 53. Assumes nothing.
use Rattle.std.proofs.Common.{◌≡◌, ℕ, suc, ◌+◌, ◌*◌, ◌^◌, ◌<◌, ◌≤◌, Bool, true, false, cond, not, ◌||◌, T, ltb, ℤ, sym, refl, ap, subst, zero-le, le_trans, le_of_eq, lt_of_le_of_lt, mul_assoc, mul_comm, mul-le-mul, mul-le-mul_left, mul-pos, one-mul, mul-one, mul_left_comm, arith, lit≤, ltb→lt, nltb→le, pow_pos}
use native.Mathlib.Nat.{le-suc}
use lib.Ieee.{Float, nan, inf, fin, binary64, low, up, down, round, neg, lt, le, is_nan, fits, of_bits}
use lib.Ieee.Fits.{up_pos, down_pos, round-fits}
use lib.Ieee.Scale.{finite, round_under, normal_of_fraction}
use lib.Ieee.Positive.{num, den, first_pos}
use Rattle.casts.specs.Order.{lt→le, not_lt→le, le_refl_any, first_zero}
use Rattle.casts.specs.Arithmetic.{◌⊘◌, one, size_of}
use Rattle.rate.specs.Ceiling.{plain}
use Rattle.stream.specs.declared.Frame.{Frame}
use Rattle.master.specs.Ceiling.{larger_of, peak_of, need_for}
use Rattle.master.specs.SheetValue.{Moderate}
use Rattle.casts.proofs.Error.{round_error}
use Rattle.master.proofs.Laws.{size_else}
use Rattle.master.proofs.Sizes.{NonNegative, nonnegative_clean, plain_not_below, le_sizes, under_one, under_one→le, round_one, plain_finite, round_plain}
use Rattle.master.proofs.Under.{div_at}

-- ---- a side's size
pub record SizeIs (x y : Float) : Type 0 where
  pub nonnegative : NonNegative y
  pub same_num : num y ≡ num x
  pub same_den : den y ≡ den x

size_of_lem : (x : Float) → T (finite x) → SizeIs x (size_of x)
unfolding size_of lt neg of_bits
size_of_lem nan h = absurd h
size_of_lem (inf s) h = absurd h
size_of_lem (fin false m e) h =
    subst (λ (y : Float). SizeIs (fin false m e) y) (size_else (fin false m e) (plain_not_below (fin false m e) tt)) (record { nonnegative = tt; same_num = refl; same_den = refl })
size_of_lem (fin true m e) h = go (ltb 0 (m * up e * 1 + 0 * down e)) (nltb→le 0 (m * up e * 1 + 0 * down e))
  where
    zero_left : (a b : ℕ) → a * 1 + b ≤ 0 → a ≡ 0
    zero_left a b h = omega arith

    go : (b : Bool) → (T (not b) → m * up e * 1 + 0 * down e ≤ 0) → SizeIs (fin true m e) (cond b (fin false m e) (fin true m e))
    go true k = record { nonnegative = tt; same_num = refl; same_den = refl }
    go false k = record { nonnegative = first_zero m (up e) (up_pos e) (zero_left (m * up e) (0 * down e) (k tt)); same_num = refl; same_den = refl }

-- ---- the larger of two
larger_is : (Q : Float → Type 0) (a b : Float) → Q a → Q b → Q (larger_of a b)
unfolding larger_of
larger_is Q a b p q = go (lt a b || is_nan a)
  where
    go : (t : Bool) → Q (cond t b a)
    go true = q
    go false = p

larger_above : (a b : Float) → NonNegative a → NonNegative b → T (le a (larger_of a b)) × T (le b (larger_of a b))
unfolding larger_of
larger_above a b p q = go (lt a b) refl (is_nan a) (nonnegative_clean a p)
  where
    go : (t : Bool) → lt a b ≡ t → (n : Bool) → T (not n) → T (le a (cond (t || n) b a)) × T (le b (cond (t || n) b a))
    go true e n k = (lt→le a b (subst T (sym e) tt), le_refl_any b (nonnegative_clean b q))
    go false e true k = absurd k
    go false e false k = (le_refl_any a (nonnegative_clean a p), not_lt→le b a (nonnegative_clean b q) (nonnegative_clean a p) e)

-- ---- the peak
pub record Peaked (f : Frame) (p : Float) : Type 0 where
  pub nonnegative : NonNegative p
  pub small : num p ≤ 2 ^ 100 * den p
  pub left : num f.left * den p ≤ num p * den f.left
  pub right : num f.right * den p ≤ num p * den f.right

across : (x y p : Float) → SizeIs x y → NonNegative p → T (le y p) → num x * den p ≤ num p * den x
across x y p s q h = subst (λ (n : ℕ). n * den p ≤ num p * den x) s.same_num (subst (λ (d : ℕ). num y * den p ≤ num p * d) s.same_den (le_sizes y p s.nonnegative q h))

small_size : (x y : Float) → SizeIs x y → num x ≤ 2 ^ 100 * den x → num y ≤ 2 ^ 100 * den y
small_size x y s h = le_trans (le_of_eq s.same_num) (le_trans h (le_of_eq (ap (λ (d : ℕ). 2 ^ 100 * d) (sym s.same_den))))

pub peaked : (f : Frame) → Moderate f.left → Moderate f.right → Peaked f (peak_of f)
unfolding peak_of
peaked f m n =
    let a = size_of f.left in
    let b = size_of f.right in
    let s = size_of_lem f.left m.is_finite in
    let t = size_of_lem f.right n.is_finite in
    let q : NonNegative (larger_of a b) = larger_is NonNegative a b s.nonnegative t.nonnegative in
    let l = larger_above a b s.nonnegative t.nonnegative in
    record {
      nonnegative = q;
      small = larger_is (λ (y : Float). num y ≤ 2 ^ 100 * den y) a b (small_size f.left a s m.size) (small_size f.right b t n.size);
      left = across f.left a (larger_of a b) s q l.0;
      right = across f.right b (larger_of a b) t q l.1;
    }

-- ---- the need, for a limit L / l from 1/2 to 1 and a peak P / p of at most 2 ^ 100
pub record Needed (L l P p : ℕ) (y : Float) : Type 0 where
  pub is_plain : T (plain y)
  pub is_held : T (fits binary64 y)
  pub at_most_one : num y ≤ den y
  pub product : num y * (P * l * 2 ^ 53) ≤ L * p * suc (2 ^ 53) * den y

quotient : (L l P p : ℕ) → 0 < l → 0 < P → L * p < P * l → l ≤ L * 2 → P ≤ 2 ^ 100 * p → Needed L l P p (round binary64 false (L * p) (P * l))
unfolding of_bits
quotient L l P p lp pp over low high =
    let y = round binary64 false (L * p) (P * l) in
    let c : 0 < P * l = mul-pos pp lp in
    let one_over : T (plain y) × (num y * 1 ≤ 1 * den y) = round_plain (L * p) (P * l) 1 1 one c (pow_pos 0) (under_one (L * p) (P * l) over) round_one tt in
    record {
      is_plain = one_over.0;
      is_held = round-fits binary64 false (L * p) (P * l);
      at_most_one = under_one→le (num y) (den y) one_over.1;
      product = round_error binary64 (L * p) (P * l) c (normal_of_fraction binary64 (L * p) (P * l) c normal) (round_under binary64 (L * p) (P * l) (plain_finite y one_over.0));
    }
  where
    -- P l ≤ L p 2 ^ 101
    product : P * l ≤ L * p * 2 ^ 101
    product = le_trans (mul-le-mul high low) (le_of_eq (turn (2 ^ 100) p L 2))
      where
        turn : (t p L d : ℕ) → t * p * (L * d) ≡ L * p * (t * d)
        turn t p L d = simp (mul_assoc, mul_comm, mul_left_comm)

    normal : 2 ^ 52 * (P * l) ≤ L * p * 2 ^ 1074
    normal = le_trans (mul-le-mul_left (2 ^ 52) product) (le_trans (le_of_eq (mul_left_comm (2 ^ 52) (L * p) (2 ^ 101))) (mul-le-mul_left {m = 2 ^ 153} (L * p) (lit≤ tt)))

needed_fin : (M : ℕ) (E : ℤ) (q : Float) → down E ≤ M * up E * 2 → NonNegative q → num q ≤ 2 ^ 100 * den q → Needed (M * up E) (down E) (num q) (den q) (need_for (fin false M E) q)
unfolding of_bits fits lt need_for
needed_fin M E q low s high = go (lt (fin false M E) q) refl
  where
    at_one : num q * down E ≤ M * up E * den q → Needed (M * up E) (down E) (num q) (den q) one
    at_one h =
        record {
          is_plain = tt;
          is_held = tt;
          at_most_one = lit≤ tt;
          product = grown (num q * down E) (M * up E * den q) (2 ^ 53) h;
        }
      where
        grown : (a b t : ℕ) → a ≤ b → 1 * (a * t) ≤ b * suc t * 1
        grown a b t h = le_trans (le_of_eq (one-mul (a * t))) (le_trans (mul-le-mul h (le-suc t)) (le_of_eq (sym (mul-one (b * suc t)))))

    over : (q : Float) → NonNegative q → num q ≤ 2 ^ 100 * den q → T (lt (fin false M E) q) → Needed (M * up E) (down E) (num q) (den q) (fin false M E ⊘ q)
    over nan s high t = absurd t
    over (inf u) s high t = absurd s
    over (fin true n d) s high t = absurd t
    over (fin false n d) s high t =
        let h : M * up E * down d < n * up d * down E = ltb→lt (M * up E * down d) (n * up d * down E) t in
        let P : 0 < n * up d = first_pos (n * up d) (down E) (lt_of_le_of_lt zero-le h) in
        subst (λ (y : Float). Needed (M * up E) (down E) (n * up d) (down d) y)
        (sym (div_at binary64 (fin false M E) (fin false n d) (M * up E) (down E) (n * up d) (down d) (down_pos E) (down_pos d) P (refl, refl) (refl, refl)))
        (quotient (M * up E) (down E) (n * up d) (down d) (down_pos E) P h low high)

    go : (b : Bool) → lt (fin false M E) q ≡ b → Needed (M * up E) (down E) (num q) (den q) (need_for (fin false M E) q)
    go true e = subst (λ (b : Bool). Needed (M * up E) (down E) (num q) (den q) (cond b (fin false M E ⊘ q) one)) (sym e) (over q s high (subst T (sym e) tt))
    go false e =
        subst (λ (b : Bool). Needed (M * up E) (down E) (num q) (den q) (cond b (fin false M E ⊘ q) one)) (sym e)
        (at_one (le_sizes q (fin false M E) s tt (not_lt→le q (fin false M E) (nonnegative_clean q s) (nonnegative_clean (fin false M E) tt) e)))

pub needed : (limit q : Float) → T (plain limit) → den limit ≤ num limit * 2 → NonNegative q → num q ≤ 2 ^ 100 * den q → Needed (num limit) (den limit) (num q) (den q) (need_for limit q)
needed nan q p low s high = absurd p
needed (inf t) q p low s high = absurd p
needed (fin true M E) q p low s high = absurd p
needed (fin false M E) q p low s high = needed_fin M E q low s high
