-- A side of the frame `ahead` back, times the gain, is at most the limit times 1 + 2 ^ -51, before it is narrowed and clamped. Assumes nothing.
use Rattle.std.proofs.Common.{◌≡◌, ℕ, suc, ◌*◌, ◌^◌, ◌<◌, ◌≤◌, true, false, T, sym, refl, subst, le_trans, le_of_eq, mul-le-mul_right, mul_assoc, mul_comm, mul-le-mul, mul-le-mul_left, mul-pos, mul-one, le_of_mul-le-mul_right, mul_left_comm, arith, lit≤, pow_pos}
use native.Mathlib.Nat.{le-suc}
use lib.Ieee.{Float, nan, inf, fin, binary64, up, down, round, mul, neg, of_bits}
use lib.Ieee.Fits.{down_pos}
use lib.Ieee.Scale.{finite, round_under, normal_of_fraction}
use lib.Ieee.Positive.{num, den, den_pos}
use Rattle.casts.specs.Step.{step_of}
use Rattle.casts.specs.Arithmetic.{◌⊗◌, two}
use Rattle.rate.specs.Ceiling.{plain}
use Rattle.rate.specs.declared.CeilingRate.{CeilingRate}
use Rattle.master.specs.Ceiling.{gain_of}
use Rattle.master.specs.SheetValue.{SideBound}
use Rattle.casts.proofs.Error.{round_error, round_neg}
use Rattle.master.proofs.Under.{gain_under}
use Rattle.master.proofs.Sizes.{plain_finite, round_plain}
use Rattle.master.proofs.Peak.{Needed}

-- ---- four fractions: |side| ≤ peak, gain ≤ need, and need * peak ≤ limit * u / t, so |side| * gain ≤ limit * u / t
chained : (X x P p G g N n L l t u : ℕ) → 0 < p → 0 < n → X * p ≤ P * x → G * n ≤ N * g → N * (P * l * t) ≤ L * p * u * n → X * G * (l * t) ≤ L * u * (x * g)
chained X x P p G g N n L l t u pp np h k e =
    let a : X * G * (l * t) * (p * n) ≡ X * p * (G * n) * (l * t) = simp (mul_assoc, mul_comm, mul_left_comm) in
    let b : P * x * (N * g) * (l * t) ≡ N * (P * l * t) * (x * g) = simp (mul_assoc, mul_comm, mul_left_comm) in
    let c : L * p * u * n * (x * g) ≡ L * u * (x * g) * (p * n) = simp (mul_assoc, mul_comm, mul_left_comm) in
    le_of_mul-le-mul_right
    (le_trans (le_of_eq a) (le_trans (mul-le-mul_right (l * t) (mul-le-mul h k)) (le_trans (le_of_eq b) (le_trans (mul-le-mul_right (x * g) e) (le_of_eq c)))))
    (mul-pos pp np)

-- Y / y ≤ S / s ≤ limit * (u / t) ^ 2 and (u / t) ^ 2 ≤ H / F, so Y / y ≤ limit * H / F
ended : (Y y S s L l t u F H : ℕ) → 0 < s → 0 < t → Y * s ≤ S * y → S * (l * t * t) ≤ L * u * u * s → u * u * F ≤ H * (t * t) → Y * F * l ≤ L * H * y
ended Y y S s L l t u F H sp tp h k e =
    let a : Y * F * l * (s * (t * t)) ≡ Y * s * (F * l * (t * t)) = simp (mul_assoc, mul_comm, mul_left_comm) in
    let b : S * y * (F * l * (t * t)) ≡ S * (l * t * t) * (y * F) = simp (mul_assoc, mul_comm, mul_left_comm) in
    let c : L * u * u * s * (y * F) ≡ u * u * F * (L * s * y) = simp (mul_assoc, mul_comm, mul_left_comm) in
    let d : H * (t * t) * (L * s * y) ≡ L * H * y * (s * (t * t)) = simp (mul_assoc, mul_comm, mul_left_comm) in
    le_of_mul-le-mul_right
    (le_trans (le_of_eq a) (le_trans (mul-le-mul_right (F * l * (t * t)) h) (le_trans (le_of_eq b) (le_trans (mul-le-mul_right (y * F) k)
    (le_trans (le_of_eq c) (le_trans (mul-le-mul_right (L * s * y) e) (le_of_eq d)))))))
    (mul-pos sp (mul-pos tp tp))

-- ---- the size of a product
negated : (limit y : Float) → SideBound limit y → SideBound limit (neg y)
unfolding neg
negated limit nan w = w
negated limit (inf s) w = absurd w.is_finite
negated limit (fin s m e) w = record { is_finite = tt; size = w.size }

product_bounded : (limit x g : Float) → T (finite x) → T (plain g) → SideBound limit (round binary64 false (num x * num g) (den x * den g)) → SideBound limit (x ⊗ g)
unfolding mul
product_bounded limit nan g p q w = absurd p
product_bounded limit (inf s) g p q w = absurd p
product_bounded limit (fin s m e) nan p q w = absurd q
product_bounded limit (fin s m e) (inf t) p q w = absurd q
product_bounded limit (fin s m e) (fin true n d) p q w = absurd q
product_bounded limit (fin false m e) (fin false n d) p q w = w
product_bounded limit (fin true m e) (fin false n d) p q w =
    subst (λ (y : Float). SideBound limit y) (sym (round_neg binary64 (m * up e * (n * up d)) (down e * down d))) (negated limit (round binary64 false (m * up e * (n * up d)) (down e * down d)) w)

round_two : round binary64 false 2 1 ≡ two
unfolding round of_bits
round_two = refl

-- ---- a product of at most limit * (2 ^ 53 + 1) / 2 ^ 53, rounded
module _ (limit : Float) (is_plain : T (plain limit)) (low : den limit ≤ num limit * 2) (high : num limit ≤ den limit) where
  abbrev L : ℕ
  L = num limit

  abbrev l : ℕ
  l = den limit

  rounded_bounded : (a c : ℕ) → 0 < c → a * (l * 2 ^ 53) ≤ L * suc (2 ^ 53) * c → SideBound limit (round binary64 false a c)
  unfolding of_bits
  rounded_bounded a c C h =
      let A = L * suc (2 ^ 53) in
      let B = l * 2 ^ 53 in
      let bp : 0 < B = mul-pos (den_pos limit) (pow_pos 53) in
      let S = round binary64 false A B in
      let s = round_plain A B 2 1 two bp (pow_pos 0) (twice L l (2 ^ 53) (pow_pos 53) high) round_two tt in
      let y = round_plain a c A B S C bp h refl s.0 in
      let e : num S * (B * 2 ^ 53) ≤ A * suc (2 ^ 53) * den S = round_error binary64 A B bp (normal_of_fraction binary64 A B bp normal) (round_under binary64 A B (plain_finite S s.0)) in
      record {
        is_finite = plain_finite (round binary64 false a c) y.0;
        size = ended (num (round binary64 false a c)) (den (round binary64 false a c)) (num S) (den S) L l (2 ^ 53) (suc (2 ^ 53)) _ _ (den_pos S) (pow_pos 53) y.1 e (lit≤ tt);
      }
    where
      twice : (a b t : ℕ) → 0 < t → a ≤ b → a * suc t * 1 ≤ 2 * (b * t)
      twice a b t tp h =
          le_trans (le_of_eq (mul-one (a * suc t))) (le_trans (mul-le-mul h (double t tp)) (le_of_eq (mul_left_comm b 2 t)))
        where
          double : (t : ℕ) → 0 < t → suc t ≤ 2 * t
          double t h = omega arith

      normal : 2 ^ 52 * (l * 2 ^ 53) ≤ L * suc (2 ^ 53) * 2 ^ 1074
      normal =
          le_trans (le_of_eq (turn (2 ^ 52) l (2 ^ 53))) (le_trans (mul-le-mul {n₁ = l * 2 ^ 52} (le_trans (mul-le-mul_right (2 ^ 52) low) (le_of_eq (mul_assoc L 2 (2 ^ 52)))) (le-suc (2 ^ 53)))
          (le_trans (le_of_eq (over L (2 ^ 53) (suc (2 ^ 53)))) (mul-le-mul_left (L * suc (2 ^ 53)) (lit≤ tt))))
        where
          turn : (a l b : ℕ) → a * (l * b) ≡ l * a * b
          turn a l b = simp (mul_assoc, mul_comm)

          over : (L a b : ℕ) → L * a * b ≡ L * b * a
          over L a b = simp (mul_assoc, mul_comm)

  -- ---- a side
  pub side_bounded : (r : CeilingRate) → suc r.ahead ≤ 2 ^ 13 → (P p count : ℕ) (x need : Float) → 0 < p → T (finite x) → num x * p ≤ P * den x → Needed L l P p need → count ≤ suc r.ahead * step_of need
      → SideBound limit (x ⊗ gain_of r count)
  side_bounded r few P p count x nan pp F h n c = absurd n.is_plain
  side_bounded r few P p count x (inf s) pp F h n c = absurd n.is_plain
  side_bounded r few P p count x (fin true m e) pp F h n c = absurd n.is_plain
  side_bounded r few P p count x (fin false m e) pp F h n c =
      let g = gain_of r count in
      let u = gain_under r few count m e n.is_held n.at_most_one c in
      product_bounded limit x g F u.0
      (rounded_bounded (num x * num g) (den x * den g) (mul-pos (den_pos x) (den_pos g))
      (chained (num x) (den x) P p (num g) (den g) (m * up e) (down e) L l (2 ^ 53) (suc (2 ^ 53)) pp (down_pos e) h u.1 n.product))
