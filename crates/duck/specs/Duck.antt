-- The duck of document 01, on lists: the kicks, and whether each is marked. No cursor, no call is known.
use Rattle.std.specs.Prelude.{ℕ, ◌+◌, ◌-◌, Bool, false, cond, ◌&&◌, List, [], ◌∷◌, map, leb, ltb, eqb, Float}
use Rattle.casts.specs.Arithmetic.{◌⊗◌, one}
use Rattle.stage.specs.Stage.{Stage}
use Rattle.sidechain.specs.declared.DuckRate.{DuckRate}
use Rattle.sidechain.specs.Sidechain.{span, sidechain_gain}

-- "whose own sample had d set": a kick at n is marked by the flag of the sample n, and by no other
unfoldable pub marks_at : ℕ → Bool → List ℕ → List Bool → List Bool
marks_at n d [] marks = []
marks_at n d (k ∷ kicks) [] = []
marks_at n d (k ∷ kicks) (m ∷ marks) = cond (eqb k n) d m ∷ marks_at n d kicks marks

-- "Fresh, .. no kick is marked"
abbrev pub unmarked : List ℕ → List Bool
unmarked kicks = map (λ (k : ℕ). false) kicks

-- "each kick k ≤ n < k + 8,820"
abbrev pub ducks : DuckRate → ℕ → ℕ → Bool
ducks r n k = leb k n && ltb n (k + span r)

-- "the product, in list order from 1, of `sidechain_gain`": from g, over the marked kicks that duck
unfoldable pub times_gains : DuckRate → ℕ → Float → List ℕ → List Bool → Float
times_gains r n g [] marks = g
times_gains r n g (k ∷ kicks) [] = g
times_gains r n g (k ∷ kicks) (m ∷ marks) = times_gains r n (cond (m && ducks r n k) (g ⊗ sidechain_gain r (n - k)) g) kicks marks

abbrev pub ducked_at : DuckRate → ℕ → List ℕ → List Bool → Float
ducked_at r n kicks marks = times_gains r n one kicks marks

-- "If ducked, times the product": the sample n, with the drums flag d
unfoldable pub duck_step : DuckRate → List ℕ → Bool → Stage (List Bool) Float Float
duck_step r kicks d n marks x =
    let now = marks_at n d kicks marks in
    record { next = now; out = x ⊗ ducked_at r n kicks now }
