-- A need and a released gain are from 0 to 1. A step of the machine is at most that of every need in its window, and so is each of the last j of them, for a frame that lies in all
-- of their windows; of any past each is at most 2 ^ 40. Assumes nothing.
use Rattle.std.proofs.Common.{◌≡◌, ℕ, zero, suc, ◌+◌, ◌*◌, ◌<◌, ◌≤◌, Bool, true, false, cond, not, T, eqb, ltb, ◌⊎◌, List, [], ◌∷◌, map, length, get_or, take, pos, sym, refl, ap, ◌∙◌, subst, inl, inr, zero-le, le_refl, le_of_suc-le-suc, not-suc-le-zero, zero-lt-suc, suc-mul, mul-pos, zero-mul, mul-one, arith, eqb→eq, ltb→lt, get_or-take, pow_pos}
use lib.ListN.{get_or-map}
use lib.Ieee.{Float, nan, inf, fin, binary64, up, down, round, mul, div, lt, le, is_nan, of_bits}
use lib.Ieee.Fits.{down_pos}
use lib.Ieee.Order.{round_mono}
use lib.Ieee.Scale.{round_same}
use Rattle.casts.specs.Order.{le_says, le_trans_any, le_refl_any, le_total_any, le_clean_left, le_clean_right}
use Rattle.casts.specs.Least.{min_f, min_left}
use Rattle.casts.specs.Step.{step_of, step_mono, step_le}
use Rattle.casts.specs.Arithmetic.{◌⊗◌, nought, one}
use Rattle.stage.specs.Stage.{All}
use Rattle.rate.specs.Ceiling.{unit, plain, Usable}
use Rattle.rate.specs.declared.CeilingRate.{CeilingRate}
use Rattle.stream.specs.declared.Frame.{Frame}
use Rattle.master.specs.Ceiling.{silence, peak_of, need_for, need_of, least, least_of, held_of, last_of, total, CeilingMachine, fresh_machine, released_of, taken}
use Rattle.master.proofs.Sizes.{none, under_one, round_one}

-- after each of a list of frames, newest first
unfoldable pub after : CeilingRate → List Frame → CeilingMachine
after r [] = fresh_machine
after r (f ∷ h) = taken r (after r h) f

-- from 0 to 1
abbrev pub Gain : Float → Type 0
Gain x = T (le nought x) × T (le x one)

pub gain_one : Gain one
unfolding le of_bits
gain_one = (tt, tt)

pub gain_nought : Gain nought
unfolding le of_bits
gain_nought = (tt, tt)

clean : (x : Float) → Gain x → T (not (is_nan x))
clean x g = le_clean_left x one g.1

-- ---- a need is from 0 to 1
round_zero : round binary64 false 0 1 ≡ nought
unfolding round of_bits
round_zero = refl

quotient : (a b : ℕ) → a < b → Gain (round binary64 false a b)
quotient a b h = (
  subst (λ (x : Float). T (le x (round binary64 false a b))) round_zero (round_mono binary64 0 1 a b (omega arith) (omega arith) (low a b)),
  subst (λ (x : Float). T (le (round binary64 false a b) x)) round_one (round_mono binary64 a b 1 1 (omega arith) (omega arith) (under_one a b h)),
)
  where
    low : (a b : ℕ) → 0 * b ≤ a * 1
    low a b = omega arith

pub need_gain : (limit peak : Float) → T (plain limit) → Gain (need_for limit peak)
unfolding need_for lt div of_bits
need_gain nan peak p = absurd p
need_gain (inf s) peak p = absurd p
need_gain (fin true m e) peak p = absurd p
need_gain (fin false m e) nan p = gain_one
need_gain (fin false m e) (inf true) p = gain_one
need_gain (fin false m e) (inf false) p = gain_nought
need_gain (fin false m e) (fin true n d) p = gain_one
need_gain (fin false m e) (fin false n d) p = go (ltb (m * up e * down d) (n * up d * down e)) (eqb n 0) (ltb→lt (m * up e * down d) (n * up d * down e)) (eqb→eq n 0)
  where
    not_below_none : (n : ℕ) (a u v : ℕ) → n ≡ 0 → a < n * u * v → ⊥
    not_below_none n a u v e h = not-suc-le-zero (subst (λ (x : ℕ). a < x) (none n u v e) h)

    go : (b c : Bool) → (T b → m * up e * down d < n * up d * down e) → (T c → n ≡ 0)
        → Gain (cond b (cond c (cond (eqb m 0) nan (inf false)) (round binary64 false (m * up e * down d) (n * up d * down e))) one)
    go false c h k = gain_one
    go true true h k = absurd (not_below_none n (m * up e * down d) (up d) (down e) (k tt) (h tt))
    go true false h k = quotient (m * up e * down d) (n * up d * down e) (h tt)

-- ---- a gain times the rise is not below 0
pub zero_round : (s : Bool) (a c : ℕ) → 0 < c → a ≡ 0 → round binary64 s a c ≡ fin s 0 (pos 0)
unfolding round
zero_round s a c C z = ap (λ (x : ℕ). round binary64 s x c) z ∙ round_same binary64 s 0 c 0 1 C (pow_pos 0) (zero-mul 1 ∙ sym (zero-mul c))

minus_nought : T (le nought (fin true 0 (pos 0)))
unfolding le of_bits
minus_nought = tt

pub rises : (x rise : Float) → Gain x → T (plain rise) → T (le nought (mul binary64 x rise))
unfolding mul le of_bits
rises nan rise g p = absurd g.0
rises (inf true) rise g p = absurd g.0
rises (inf false) rise g p = absurd g.1
rises (fin s m e) nan g p = absurd p
rises (fin s m e) (inf t) g p = absurd p
rises (fin s m e) (fin true n d) g p = absurd p
rises (fin true m e) (fin false n d) g p =
    subst (λ (x : Float). T (le nought x))
    (sym (zero_round true (m * up e * (n * up d)) (down e * down d) (mul-pos (down_pos e) (down_pos d))
    (ap (λ (x : ℕ). x * (n * up d)) (sym (mul-one (m * up e)) ∙ (le_says false (0 * down e) true (m * up e * 1) g.0).1) ∙ zero-mul (n * up d))))
    minus_nought
rises (fin false m e) (fin false n d) g p =
    subst (λ (x : Float). T (le x (round binary64 false (m * up e * (n * up d)) (down e * down d)))) round_zero
    (round_mono binary64 0 1 (m * up e * (n * up d)) (down e * down d) (omega arith) (mul-pos (down_pos e) (down_pos d)) (low (m * up e * (n * up d)) (down e * down d)))
  where
    low : (a b : ℕ) → 0 * b ≤ a * 1
    low a b = omega arith

-- ---- the least
cond_gain : (b : Bool) (x y : Float) → Gain x → Gain y → Gain (cond b x y)
cond_gain true x y g k = g
cond_gain false x y g k = k

pub least_gain : (m : Float) (l : List Float) → Gain m → All Gain l → Gain (least le m l)
unfolding least
least_gain m [] g a = g
least_gain m (z ∷ u) g a = least_gain (cond (le m z) m z) u (cond_gain (le m z) m z g a.0) a.1

pick_le : (m z : Float) → Gain m → Gain z → T (le (cond (le m z) m z) m) × T (le (cond (le m z) m z) z)
pick_le m z g k = go (le m z) refl (le_total_any m z (clean m g) (clean z k))
  where
    go : (b : Bool) → le m z ≡ b → T (le m z) ⊎ T (le z m) → T (le (cond b m z) m) × T (le (cond b m z) z)
    go true e t = (le_refl_any m (clean m g), subst T (sym e) tt)
    go false e (inl t) = absurd (subst T e t)
    go false e (inr t) = (t, le_refl_any z (clean z k))

pub least_first : (m : Float) (l : List Float) → Gain m → All Gain l → T (le (least le m l) m)
unfolding least
least_first m [] g a = le_refl_any m (clean m g)
least_first m (z ∷ u) g a =
    le_trans_any (least le (cond (le m z) m z) u) (cond (le m z) m z) m (least_first (cond (le m z) m z) u (cond_gain (le m z) m z g a.0) a.1) (pick_le m z g a.0).0

pub least_at : (m : Float) (l : List Float) (i : ℕ) (d : Float) → Gain m → All Gain l → i < length l → T (le (least le m l) (get_or l i d))
unfolding least
least_at m [] i d g a h = absurd (not-suc-le-zero h)
least_at m (z ∷ u) zero d g a h =
    le_trans_any (least le (cond (le m z) m z) u) (cond (le m z) m z) z (least_first (cond (le m z) m z) u (cond_gain (le m z) m z g a.0) a.1) (pick_le m z g a.0).1
least_at m (z ∷ u) (suc i) d g a h = least_at (cond (le m z) m z) u i d (cond_gain (le m z) m z g a.0) a.1 (le_of_suc-le-suc h)

least_of_gain : (l : List Float) → All Gain l → Gain (least_of l)
unfolding least_of
least_of_gain [] a = gain_one
least_of_gain (x ∷ l) a = least_gain x l a.0 a.1

least_of_at : (l : List Float) (i : ℕ) (d : Float) → All Gain l → i < length l → T (le (least_of l) (get_or l i d))
unfolding least_of
least_of_at [] i d a h = absurd (not-suc-le-zero h)
least_of_at (x ∷ l) zero d a h = least_first x l a.0 a.1
least_of_at (x ∷ l) (suc i) d a h = least_at x l i d a.0 a.1 (le_of_suc-le-suc h)

all_take : {E : Type 0} (P : E → Type 0) (k : ℕ) (l : List E) → All P l → All P (take k l)
all_take P zero l a = tt
all_take P (suc k) [] a = tt
all_take P (suc k) (x ∷ l) a = (a.0, all_take P k l a.1)

length_take_lt : {E : Type 0} (k : ℕ) (l : List E) (i : ℕ) → i < k → i < length l → i < length (take k l)
length_take_lt zero l i h k = h
length_take_lt (suc n) [] i h k = k
length_take_lt (suc n) (x ∷ l) zero h k = zero-lt-suc (length (take n l))
length_take_lt (suc n) (x ∷ l) (suc i) h k = suc_lt i (length (take n l)) (length_take_lt n l i (le_of_suc-le-suc h) (le_of_suc-le-suc k))
  where
    suc_lt : (i n : ℕ) → i < n → suc i < suc n
    suc_lt i n h = omega arith

-- one step more
more : (j s t b : ℕ) → s ≤ b → t ≤ j * b → s + t ≤ suc j * b
more j s t b h k = subst (λ (x : ℕ). s + t ≤ x) (sym (suc-mul j b)) (total_le s t b (j * b) h k)
  where
    total_le : (s t b c : ℕ) → s ≤ b → t ≤ c → s + t ≤ c + b
    total_le s t b c h k = omega arith

module _ (r : CeilingRate) (sound : Usable r) where
  held_gain : (needs : List Float) → All Gain needs → Gain (held_of r needs)
  unfolding held_of
  held_gain needs a = least_of_gain (take r.window needs) (all_take Gain r.window needs a)

  held_at : (needs : List Float) (i : ℕ) (d : Float) → All Gain needs → i < r.window → i < length needs → T (le (held_of r needs) (get_or needs i d))
  unfolding held_of
  held_at needs i d a w h =
      subst (λ (x : Float). T (le (least_of (take r.window needs)) x)) (get_or-take r.window needs i d w)
      (least_of_at (take r.window needs) i d (all_take Gain r.window needs a) (length_take_lt r.window needs i w h))

  -- the released gain: from 0 to 1, and at most what is held
  pub released_gain : (needs : List Float) (before : Float) → All Gain needs → Gain before → Gain (released_of r needs before) × T (le (released_of r needs before) (held_of r needs))
  unfolding released_of
  released_gain needs before a g =
      let held = held_of r needs in
      let risen = before ⊗ r.rise in
      let up : T (le nought risen) = rises before r.rise g sound.rise_plain in
      let k : Gain held = held_gain needs a in
      let below : T (le (min_f held risen) held) = min_left held risen (clean held k) (le_clean_right nought risen up) in
      ((low (lt risen held) held risen k.0 up, le_trans_any (min_f held risen) held one below k.1), below)
    where
      low : (b : Bool) (x y : Float) → T (le nought x) → T (le nought y) → T (le nought (cond b y x))
      low true x y p q = q
      low false x y p q = p

  -- ---- over every list of frames
  needs_are : (h : List Frame) → (after r h).needs ≡ map (need_of r) h
  unfolding after taken
  needs_are [] = refl
  needs_are (f ∷ h) = ap (λ l. need_of r f ∷ l) (needs_are h)

  pub need_of_lem : (f : Frame) → Gain (need_of r f)
  unfolding need_of
  need_of_lem f = need_gain r.limit (peak_of f) sound.limit_plain

  pub after_gain : (h : List Frame) → All Gain (after r h).needs × Gain (after r h).released
  unfolding after taken
  after_gain [] = (tt, gain_one)
  after_gain (f ∷ h) =
      let i = after_gain h in
      let a : All Gain (need_of r f ∷ (after r h).needs) = (need_of_lem f, i.0) in
      (a, (released_gain (need_of r f ∷ (after r h).needs) (after r h).released a i.1).0)

  length_needs : (h : List Frame) → length (after r h).needs ≡ length h
  unfolding after taken
  length_needs [] = refl
  length_needs (f ∷ h) = ap suc (length_needs h)

  under_held : (f : Frame) (h : List Frame) → T (le (after r (f ∷ h)).released (held_of r (after r (f ∷ h)).needs))
  unfolding after taken
  under_held f h =
      let i = after_gain h in
      (released_gain (need_of r f ∷ (after r h).needs) (after r h).released (need_of_lem f, i.0) i.1).1

  -- a step of the machine is at most that of any need of its window
  step_bound : (f : Frame) (h : List Frame) (a : ℕ) → a < r.window → a < length (f ∷ h)
      → step_of (after r (f ∷ h)).released ≤ step_of (need_of r (get_or (f ∷ h) a silence))
  unfolding of_bits
  step_bound f h a w k =
      let x = (after r (f ∷ h)).released in
      let needs = (after r (f ∷ h)).needs in
      let i = after_gain (f ∷ h) in
      let d = need_of r silence in
      let at : get_or needs a d ≡ need_of r (get_or (f ∷ h) a silence) = ap (λ l. get_or l a d) (needs_are (f ∷ h)) ∙ get_or-map (need_of r) (f ∷ h) a silence in
      let under : T (le x (get_or needs a d)) = le_trans_any x (held_of r needs) (get_or needs a d) (under_held f h) (held_at needs a d i.0 w (subst (λ (n : ℕ). a < n) (sym (length_needs (f ∷ h))) k)) in
      step_mono x (need_of r (get_or (f ∷ h) a silence)) i.1.0 (subst (λ (y : Float). T (le x y)) at under) (need_of_lem (get_or (f ∷ h) a silence)).1

  pub steps_bound : (j a : ℕ) (h : List Frame) → j ≤ suc a → a < r.window → a < length h
      → total (last_of j unit (after r h).steps) ≤ j * step_of (need_of r (get_or h a silence))
  unfolding total last_of after taken
  steps_bound zero a h j w k = zero-le
  steps_bound (suc j) a [] l w k = absurd (not-suc-le-zero k)
  steps_bound (suc zero) zero (f ∷ h) l w k = omega (arith, step_bound f h 0 w k)
  steps_bound (suc (suc j)) zero (f ∷ h) l w k = absurd (not-suc-le-zero (le_of_suc-le-suc l))
  steps_bound (suc j) (suc a) (f ∷ h) l w k =
      more j _ _ _ (step_bound f h (suc a) w k) (steps_bound j a h (le_of_suc-le-suc l) (fewer a r.window w) (le_of_suc-le-suc k))
    where
      fewer : (a n : ℕ) → suc a < n → a < n
      fewer a n h = omega arith

  -- the count of any past is at most that of silence
  pub steps_full : (j : ℕ) (h : List Frame) → total (last_of j unit (after r h).steps) ≤ j * unit
  unfolding total last_of after taken of_bits
  steps_full zero h = zero-le
  steps_full (suc j) [] = more j unit (total (last_of j unit [])) unit (le_refl unit) (steps_full j [])
  steps_full (suc j) (f ∷ h) =
      let g = (after_gain (f ∷ h)).1 in
      more j (step_of (after r (f ∷ h)).released) (total (last_of j unit (after r h).steps)) unit (step_le (after r (f ∷ h)).released g.0 g.1) (steps_full j h)
