-- What answers calls: for each state and call an answer and the next state. A list of calls, each put to what the call before left.
use Rattle.std.specs.Prelude.{List, [], ◌∷◌}

pub record System (S C A : Type 0) : Type 0 where
  pub answer : S → C → A
  pub next : S → C → S

-- the answers to a list of calls
unfoldable pub through : {S C A : Type 0} → System S C A → S → List C → List A
through f s [] = []
through f s (c ∷ cs) = f.answer s c ∷ through f (f.next s c) cs

-- a system that is asked in other words, each of which stands for a call
abbrev pub asked : {S C D A : Type 0} → (D → C) → System S C A → System S D A
asked h f = record { answer = λ s d. f.answer s (h d); next = λ s d. f.next s (h d) }
