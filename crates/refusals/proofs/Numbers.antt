-- What is known once 1 and 4 decline nothing, and what is answered where they do. Assumes nothing.
use mathlib.Core.Path.{◌≡◌}
use mathlib.Core.Bool.{Bool, true}
use mathlib.Core.List.{List, []}
use Rattle.std.specs.Prelude.{Ok, Err}
use Rattle.rate.specs.declared.Rate.{Rate}
use Rattle.rate.specs.Rate.{Sized}
use Rattle.strip.specs.declared.Refusal.{Refusal}
use Rattle.strip.specs.Refusals.{long_enough}
use Rattle.strip.specs.Kept.{State, formed}
use Rattle.strip.specs.Calls.{first_of, unless, strip_grounds, first}
use Rattle.strip.proofs.Refusals.{passed, first_then, sized_is}

pub record Fine (r : Rate) (st : State) : Type 0 where
  pub sized : Sized r st.store st.counts
  pub well : formed r st ≡ true

module _ (r : Rate) (st : State) where
  -- the strip's grounds, and then the call's own
  pub first_is : (own : List (Bool × Refusal)) → first r st own ≡ unless (first r st []) (first_of own) (λ k. Err k)
  unfolding first
  first_is own = first_then (strip_grounds r st) own

  pub fine : first r st [] ≡ Ok tt → Fine r st
  unfolding first
  fine e =
      let a = passed (long_enough r st.store st.counts) _ _ e in
      let b = passed (formed r st) _ _ a.1 in
      record { sized = sized_is r st.store st.counts a.0; well = b.0 }
