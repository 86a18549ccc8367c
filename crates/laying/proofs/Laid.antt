-- A list laid so far: the part has its first i elements, and the rest as it was. Assumes nothing.
use mathlib.Core.Path.{◌≡◌, ap, ◌∙◌}
use Prim.Native.Nat.{ℕ, suc, ◌+◌, ◌≤◌, ◌<◌}
use native.Mathlib.Omega.{arith}
use native.Mathlib.Numerals.{add-one}
use mathlib.Core.List.{List, ◌∷◌, ◌++◌}
use lib.ListN.{length, take, drop, set, get_or, length-set}
use lib.Seq.{drop-cons, take-suc, append_snoc, set_at, length-take-le}

module _ {X : Type 0} (ks u : List X) where
  pub record Laid (part : List X) (i : ℕ) : Type 0 where
    pub within : i ≤ length ks
    pub long : length part ≡ length u
    pub so_far : part ≡ take i ks ++ drop i u

  pub lay_more : {part : List X} {i : ℕ} {x : X} → x ≡ get_or ks i x → Laid part i → i < length ks → length ks ≤ length u → Laid (set part i x) (i + 1)
  lay_more {part} {i} {x} e l h k =
      let r : i < length u = omega arith in
      record {
        within = omega arith;
        long = simp length-set l.long;
        so_far =
            ap (λ (p : List X). set p i x) l.so_far
            ∙ ap (λ (p : List X). set (take i ks ++ p) i x) (drop-cons u i x r)
            ∙ set_at (take i ks) (get_or u i x) (drop (suc i) u) x i (length-take-le i ks l.within)
            ∙ rw (add-one i, take-suc ks i x h, append_snoc) (ap (λ (y : X). take i ks ++ (y ∷ drop (suc i) u)) e);
      }
