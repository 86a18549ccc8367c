-- Two systems that answer alike from states that go together, and keep them so, answer every list of calls alike. Assumes nothing.
use mathlib.Core.Path.{◌≡◌, refl, ap}
use mathlib.Core.List.{List, [], ◌∷◌, map}
use Rattle.stage.specs.System.{System, through, asked}

pub record Alike {S T C A : Type 0} (R : S → T → Type 0) (f : System S C A) (g : System T C A) : Type 0 where
  pub same : (s : S) (t : T) (c : C) → R s t → f.answer s c ≡ g.answer t c
  pub keeps : (s : S) (t : T) (c : C) → R s t → R (f.next s c) (g.next t c)

module _ {S T C A : Type 0} (R : S → T → Type 0) (f : System S C A) (g : System T C A) (a : Alike R f g) where
  pub answers_alike : (s : S) (t : T) (cs : List C) → R s t → through f s cs ≡ through g t cs
  unfolding through
  answers_alike s t [] h = refl
  answers_alike s t (c ∷ cs) h = rw (a.same s t c h, answers_alike (f.next s c) (g.next t c) cs (a.keeps s t c h))

-- in other words it is answered as for the calls that they stand for
pub through_asked : {S C D A : Type 0} (h : D → C) (f : System S C A) (s : S) (ds : List D) → through (asked h f) s ds ≡ through f s (map h ds)
unfolding through
through_asked h f s [] = refl
through_asked {A = A} h f s (d ∷ ds) = ap (λ (l : List A). f.answer s (h d) ∷ l) (through_asked h f (f.next s (h d)) ds)
