-- What rounding adds: the nearest whole number to a fraction is at most a half above it, so a fraction in the normal range, rounded to a format of p digits, grows by one part in 2 ^ p at most.
-- A sign goes through rounding. Assumes nothing.
use Rattle.std.proofs.Common.{◌≡◌, ℕ, zero, suc, ◌+◌, ◌-◌, ◌*◌, ◌/◌, ◌%◌, ◌^◌, ◌<◌, ◌≤◌, Bool, true, false, cond, T, ltb, sym, refl, ap, ◌∙◌, le_trans, le_of_eq, mul-le-mul_right, mul_assoc, suc-mul, mul_comm, add-mul, div-add-mod', le-div_iff_mul-le, mul_right_comm, le_of_mul-le-mul_right, mul_left_comm, arith, pow_pos, pow-add}
use Prim.Native.Nat.{compare, Ordering}
use native.Mathlib.Nat.{le-suc}
use lib.Ieee.{Float, inf, Format, prec, emax, low, size, nearest, odd, units, round, neg}
use lib.Ieee.Digits.{size_reaches}
use lib.Ieee.Fits.{nearest-le, two, two-le_pos}
use lib.Ieee.Nearest.{closest}
use lib.Ieee.Order.{drop, kept}
use lib.Ieee.Scale.{grid, overflow, round_val}
use lib.Ieee.Positive.{num, den, value→cross}
use Rattle.casts.specs.Same.{unsigned}
use Rattle.casts.proofs.Closest.{Cmp, cmp}

-- ---- the nearest whole number to a / b is at most a half above a / b
closest_half : (a b : ℕ) → closest a b * b * 2 ≤ a * 2 + b
closest_half a b = go (compare (a % b * 2) b) (cmp (a % b * 2) b)
  where
    below : (x r : ℕ) → x + r ≡ a → x * 2 ≤ a * 2 + b
    below x r e = omega arith

    above : (x r : ℕ) → x + r ≡ a → b ≤ r * 2 → (x + b) * 2 ≤ a * 2 + b
    above x r e h = omega arith

    next : (o : Ordering) → b ≤ a % b * 2 → nearest (a / b) o * b * 2 ≤ a * 2 + b
    next o h =
        le_trans (mul-le-mul_right 2 (mul-le-mul_right b (nearest-le (a / b) o)))
        (le_trans (le_of_eq (ap (λ (x : ℕ). x * 2) (suc-mul (a / b) b))) (above (a / b * b) (a % b) (div-add-mod' a b) h))

    go : (o : Ordering) → Cmp o (a % b * 2) b → nearest (a / b) o * b * 2 ≤ a * 2 + b
    go Ordering.lt h = below (a / b * b) (a % b) (div-add-mod' a b)
    go Ordering.eq h = next Ordering.eq (le_of_eq (sym h))
    go Ordering.gt h = next Ordering.gt (le_trans (le-suc b) h)

-- ---- one part in 2 ^ prec
lead : (p z : ℕ) → 0 < p → p ≤ z → p - 1 + (z - p) < z
lead p z P h = omega arith

twice : (p : ℕ) → 0 < p → 2 * 2 ^ (p - 1) ≡ 2 ^ p
twice p P = sym (pow-add 2 1 (p - 1)) ∙ ap (λ (x : ℕ). 2 ^ x) (whole p P)
  where
    whole : (p : ℕ) → 0 < p → 1 + (p - 1) ≡ p
    whole p P = omega arith

grid_error : (f : Format) (a c : ℕ) → 0 < c → prec f ≤ size (a * 2 ^ low f / c) → grid f a c * (c * 2 ^ prec f) ≤ a * 2 ^ low f * suc (2 ^ prec f)
grid_error f a c C N =
    let p = prec f in
    let n = a * 2 ^ low f in
    let P : 0 < p = two-le_pos p (two f) in
    let k = drop p n c in
    let q = kept p n c in
    let h = 2 ^ (p - 1) in
    let some : 2 ^ (p - 1 + k) * c ≤ n = (le-div_iff_mul-le C).0 (size_reaches (n / c) (p - 1 + k) (lead p (size (n / c)) P N)) in
    let one : c * 2 ^ k * h ≤ n = le_trans (le_of_eq (mul_right_comm c (2 ^ k) h ∙ mul_assoc c h (2 ^ k) ∙ mul_comm c (h * 2 ^ k) ∙ ap (λ (x : ℕ). x * c) (sym (pow-add 2 (p - 1) k)))) some in
    let all : q * (c * 2 ^ k) * 2 * h ≤ (n * 2 + c * 2 ^ k) * h = mul-le-mul_right h (closest_half n (c * 2 ^ k)) in
    let left : q * 2 ^ k * (c * 2 ^ p) ≡ q * (c * 2 ^ k) * 2 * h =
    ap (λ (x : ℕ). q * 2 ^ k * (c * x)) (sym (twice p P)) ∙ simp (mul_assoc, mul_comm, mul_left_comm) in
    let right : (n * 2 + c * 2 ^ k) * h ≡ n * 2 ^ p + c * 2 ^ k * h =
    add-mul (n * 2) (c * 2 ^ k) h ∙ ap (λ (x : ℕ). x + c * 2 ^ k * h) (mul_assoc n 2 h ∙ ap (λ (x : ℕ). n * x) (twice p P)) in
    le_trans (le_of_eq left) (le_trans all (le_trans (le_of_eq right) (last n (2 ^ p) (c * 2 ^ k * h) one)))
  where
    last : (n t x : ℕ) → x ≤ n → n * t + x ≤ n * suc t
    last n t x h = le_trans (add n (n * t) x h) (le_of_eq (sym (mul_comm n (suc t) ∙ suc-mul t n ∙ ap (λ (y : ℕ). y + n) (mul_comm t n))))
      where
        add : (n y x : ℕ) → x ≤ n → y + x ≤ y + n
        add n y x h = omega arith

-- as the fractions' order: round (a / c) ≤ a / c * (1 + 2 ^ -prec)
pub round_error : (f : Format) (a c : ℕ) → 0 < c → prec f ≤ size (a * 2 ^ low f / c) → grid f a c < overflow f
    → num (round f false a c) * (c * 2 ^ prec f) ≤ a * suc (2 ^ prec f) * den (round f false a c)
round_error f a c C N O =
    let x = round f false a c in
    let l = 2 ^ low f in
    let v : num x * l ≡ grid f a c * den x = value→cross x (grid f a c) l (round_val f a c O) in
    let t = c * 2 ^ prec f in
    le_of_mul-le-mul_right
    (le_trans (le_of_eq (mul_right_comm (num x) t l ∙ ap (λ (y : ℕ). y * t) v ∙ mul_right_comm (grid f a c) (den x) t))
    (le_trans (mul-le-mul_right (den x) (grid_error f a c C N)) (le_of_eq (swap a l (suc (2 ^ prec f)) (den x)))))
    (pow_pos (low f))
  where
    swap : (a l s d : ℕ) → a * l * s * d ≡ a * s * d * l
    swap a l s d = simp (mul_assoc, mul_comm, mul_left_comm)

-- ---- the sign
odd_neg : (d q k l : ℕ) → odd d true q k l ≡ neg (odd d false q k l)
unfolding odd neg
odd_neg d zero k l = refl
odd_neg d (suc q) k l = refl

cond_neg : (b : Bool) (x y x' y' : Float) → x ≡ neg x' → y ≡ neg y' → cond b x y ≡ neg (cond b x' y')
cond_neg true x y x' y' h k = h
cond_neg false x y x' y' h k = k

inf_neg : inf true ≡ neg (inf false)
unfolding neg
inf_neg = refl

units_neg : (f : Format) (q k : ℕ) → units f true q k ≡ neg (units f false q k)
unfolding units
units_neg f q k =
    cond_neg (ltb (q * 2 ^ k) (2 ^ (low f + suc (emax f)))) (odd (suc (prec f)) true q k (low f)) (inf true) (odd (suc (prec f)) false q k (low f)) (inf false)
    (odd_neg (suc (prec f)) q k (low f)) inf_neg

pub round_neg : (f : Format) (a c : ℕ) → round f true a c ≡ neg (round f false a c)
unfolding round
round_neg f a c = units_neg f _ _

-- ---- no sign comes out of a rounding
odd_unsigned : (d q k l : ℕ) → T (unsigned (odd d false q k l))
unfolding odd
odd_unsigned d zero k l = tt
odd_unsigned d (suc q) k l = tt

cond_unsigned : (b : Bool) (x y : Float) → T (unsigned x) → T (unsigned y) → T (unsigned (cond b x y))
cond_unsigned true x y p q = p
cond_unsigned false x y p q = q

units_unsigned : (f : Format) (q k : ℕ) → T (unsigned (units f false q k))
unfolding units
units_unsigned f q k = cond_unsigned (ltb (q * 2 ^ k) (2 ^ (low f + suc (emax f)))) (odd (suc (prec f)) false q k (low f)) (inf false) (odd_unsigned (suc (prec f)) q k (low f)) tt

pub round_unsigned : (f : Format) (a c : ℕ) → T (unsigned (round f false a c))
unfolding round
round_unsigned f a c = units_unsigned f _ _
