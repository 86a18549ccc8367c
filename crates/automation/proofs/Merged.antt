-- Tied points, merged: where a list may be parted, the tie at its front, its last, and how many are reached. Assumes nothing.
use Rattle.std.proofs.Common.{◌≡◌, ℕ, zero, suc, ◌<◌, ◌≤◌, List, [], ◌∷◌, ◌++◌, length, get_or, take, refl, ap, ◌∙◌, arith, eq-eqb, ne_eqb, le-leb}
use native.Mathlib.Decide.{ℕ_discrete, dec_le}
use lib.Ieee.{Float, nan}
use borrow.Author.Tests.{lt-leb}
use Rattle.casts.specs.Least.{min_f}
use Rattle.automation.specs.Automation.{Point, positions_of, merged_with, merged, reached}
use Rattle.automation.specs.Kept.{tied}

abbrev pub point : ℕ → Float → Point
point p x = record { position = p; value = x }

abbrev pub no_point : Point
no_point = point 0 nan

-- a point before merged ones: tied with their first, and apart from it
pub with_tied : (p q : Point) (qs : List Point) → p.position ≡ q.position → merged_with p (q ∷ qs) ≡ point p.position (min_f p.value q.value) ∷ qs
unfolding merged_with
with_tied p q qs e = rw (eq-eqb p.position q.position e)

pub with_apart : (p q : Point) (qs : List Point) → (p.position ≡ q.position → ⊥) → merged_with p (q ∷ qs) ≡ p ∷ q ∷ qs
unfolding merged_with
with_apart p q qs h = rw (ne_eqb p.position q.position h)

-- the tie at a list's front, merged, is the first of the list merged
pub record Front (p : Point) (ps : List Point) : Type 0 where
  pub value : Float
  pub rest : List Point
  pub whole : merged (p ∷ ps) ≡ point p.position value ∷ rest
  pub alone : merged (p ∷ take (tied p.position (positions_of ps)) ps) ≡ point p.position value ∷ []

pub front : (p : Point) (ps : List Point) → Front p ps
unfolding merged merged_with tied
front p [] = record { value = p.value; rest = []; whole = refl; alone = refl }
front p (q ∷ ps) =
    let r = front q ps in
    let first = point q.position r.value in
    elim (ℕ_discrete p.position q.position) [
      | yes e ↦
          record {
            value = min_f p.value r.value;
            rest = r.rest;
            whole = rw r.whole (with_tied p first r.rest e);
            alone = rw (eq-eqb p.position q.position e, ap (λ (a : ℕ). tied a (positions_of ps)) e, r.alone) (with_tied p first [] e);
          }
      | no h ↦
          record {
            value = p.value;
            rest = first ∷ r.rest;
            whole = rw r.whole (with_apart p first r.rest h);
            alone = rw (ne_eqb p.position q.position h);
          }
    ]

-- what stands behind merged points stays there, where there are some
with_behind : (p q : Point) (qs rs : List Point) → merged_with p (q ∷ qs ++ rs) ≡ merged_with p (q ∷ qs) ++ rs
unfolding merged_with
with_behind p q qs rs = elim (ℕ_discrete p.position q.position) [
  | yes e ↦ rw (eq-eqb p.position q.position e)
  | no h ↦ rw (ne_eqb p.position q.position h)
]

-- the last of the one list is not tied with the first of the other
abbrev pub NotTied : List Point → List Point → Type 0
NotTied ps qs = (k : ℕ) → length ps ≡ suc k → 0 < length qs → (get_or ps k no_point).position ≡ (get_or qs 0 no_point).position → ⊥

-- such lists are merged each by itself
pub merged_apart : (ps qs : List Point) → NotTied ps qs → merged (ps ++ qs) ≡ merged ps ++ merged qs
unfolding merged merged_with
merged_apart [] qs h = refl
merged_apart (p ∷ []) [] h = refl
merged_apart (p ∷ []) (q ∷ qs) h =
    let r = front q qs in
    rw r.whole (with_apart p (point q.position r.value) r.rest (h 0 refl (omega arith)))
merged_apart (p ∷ q ∷ ps) qs h =
    let r = front q ps in
    rw (merged_apart (q ∷ ps) qs (λ k s. h (suc k) (ap suc s)), r.whole) (with_behind p (point q.position r.value) r.rest (merged qs))

-- of two lists that part in the first's value alone, each point lies where it lies in the other
same_position : (p q : Point) (ps : List Point) (k : ℕ) → p.position ≡ q.position → (get_or (p ∷ ps) k no_point).position ≡ (get_or (q ∷ ps) k no_point).position
same_position p q ps zero e = e
same_position p q ps (suc k) e = refl

-- some are left where there are some, and the last lies where it lay
pub merged_some : (ps : List Point) → 0 < length ps → 0 < length (merged ps)
merged_some [] h = absurd (omega arith)
merged_some (p ∷ ps) h = rw (front p ps).whole (omega arith)

pub last_position_lem : (ps : List Point) (k : ℕ) → length ps ≡ suc k → (l : ℕ) → length (merged ps) ≡ suc l → (get_or (merged ps) l no_point).position ≡ (get_or ps k no_point).position
unfolding merged merged_with
last_position_lem [] k s l t = absurd (omega arith)
last_position_lem (p ∷ []) zero s zero t = refl
last_position_lem (p ∷ []) zero s (suc l) t = absurd (omega arith)
last_position_lem (p ∷ []) (suc k) s l t = absurd (omega arith)
last_position_lem (p ∷ q ∷ ps) zero s l t = absurd (omega arith)
last_position_lem (p ∷ q ∷ ps) (suc k) s l t =
    let r = front q ps in
    let first = point q.position r.value in
    let h = rw r.whole at (last_position_lem (q ∷ ps) k (omega arith)) in
    let u = rw r.whole at t in
    elim (ℕ_discrete p.position q.position) [
      | yes e ↦
          let v = rw (with_tied p first r.rest e) at u in
          rw (r.whole, with_tied p first r.rest e) (same_position (point p.position (min_f p.value r.value)) first r.rest l e ∙ h l v)
      | no g ↦
          let v = rw (with_apart p first r.rest g) at u in
          let w : l ≡ suc (length r.rest) = omega arith in
          rw (r.whole, with_apart p first r.rest g, w) (h (length r.rest) refl)
    ]

-- where all are reached, all are that are left of them
with_reached : (p : Point) (m : List Point) (n : ℕ) → p.position ≤ n → reached (positions_of m) n ≡ length m → reached (positions_of (merged_with p m)) n ≡ length (merged_with p m)
unfolding merged_with reached
with_reached p [] n k h = rw (le-leb p.position n k)
with_reached p (q ∷ qs) n k h = elim (ℕ_discrete p.position q.position) [
  | yes e ↦ rw (eq-eqb p.position q.position e, le-leb p.position n k) (rw (le-leb q.position n (omega arith)) at h)
  | no g ↦ rw (ne_eqb p.position q.position g, le-leb p.position n k) (ap suc h)
]

pub merged_reached : (ps : List Point) (n : ℕ) → reached (positions_of ps) n ≡ length ps → reached (positions_of (merged ps)) n ≡ length (merged ps)
unfolding merged reached
merged_reached [] n h = refl
merged_reached (p ∷ ps) n h = elim (dec_le p.position n) [
  | yes k ↦ let g = rw (le-leb p.position n k) at h in with_reached p (merged ps) n k (merged_reached ps n (omega arith))
  | no k ↦ let g = rw (lt-leb p.position n (omega arith)) at h in absurd (omega arith)
]

-- and where none is, none is of them
pub none_reached : (ps : List Point) (n : ℕ) → reached (positions_of ps) n ≡ 0 → reached (positions_of (merged ps)) n ≡ 0
unfolding merged reached
none_reached [] n h = refl
none_reached (p ∷ ps) n h = elim (dec_le p.position n) [
  | yes k ↦ let g = rw (le-leb p.position n k) at h in absurd (omega arith)
  | no k ↦ rw ((front p ps).whole, lt-leb p.position n (omega arith))
]
