-- What a list lends from a place on, and the room that a strip which was read back has. Assumes nothing.
use mathlib.Core.Path.{◌≡◌, refl, sym, ap, ◌∙◌}
use mathlib.Core.Bool.{Bool, true, false, cond, and-eq-true_iff}
use mathlib.Core.List.{List}
use Prim.Native.Nat.{ℕ, ◌-◌, ◌≤◌}
use lib.ListN.{length, take, drop, length-drop}
use lib.Seq.{take-length}
use lib.Ieee.{Float}
use borrow.Author.Tests.{leb-true}
use Rattle.strip.specs.declared.Strip.{Strip}
use Rattle.std.specs.Prelude.{Result, Ok, Err}
use Rattle.packing.specs.declared.UnpackError.{UnpackError}
use Rattle.packing.specs.declared.UnpackError.TheVariants.{Short, Malformed}
use Rattle.packing.specs.Packing.{numbers_long, words_long, roomy, unpackable, strip_from, unpacked}

pub behind : {X : Type 0} (k : ℕ) (l : List X) → take (length l - k) (drop k l) ≡ drop k l
behind k l = ap (λ (n : ℕ). take n (drop k l)) (sym (length-drop k l)) ∙ take-length (drop k l)

no_strip : {s : Strip} → ◌≡◌ {A = Result Strip UnpackError} (Err Short) (Ok s) → ⊥
no_strip e = cc

module _ (ns : List Float) (ws : List ℕ) where
  pub room : roomy ns ws ≡ true → (numbers_long ≤ length ns) × (words_long ≤ length ws)
  unfolding roomy
  room e = let a = (and-eq-true_iff _ _).0 e in (leb-true _ _ a.0, leb-true _ _ a.1)

  pub read : (s : Strip) → unpacked ns ws ≡ Ok s → (numbers_long ≤ length ns) × (words_long ≤ length ws)
  unfolding unpacked
  read s h = by (roomy ns ws) refl h
    where
      by : (b : Bool) → roomy ns ws ≡ b → cond b (cond (unpackable ns ws) (Ok (strip_from ns ws)) (Err Malformed)) (Err Short) ≡ Ok s
          → (numbers_long ≤ length ns) × (words_long ≤ length ws)
      by true e h = room e
      by false e h = absurd (no_strip h)
