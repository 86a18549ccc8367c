-- Whole effects of the calls, each as one value.
use Rattle.std.specs.Prelude.{ℕ, List, Float, Result}
use Rattle.strip.specs.declared.Strip.{Strip}
use Rattle.strip.specs.declared.Refusal.{Refusal}
use Rattle.strip.specs.declared.Declined.{Declined}
use Rattle.strip.specs.Calls.{OpenDone, RunDone}

-- open's whole effect
abbrev pub opened : Result Strip Refusal → List Float → List ℕ → OpenDone
opened answer store counts = record { answer = answer; store = store; counts = counts }

-- run's whole effect
abbrev pub went : Result Strip Declined → List Float → List ℕ → List Float → List ℕ → RunDone
went answer store counts frames gains = record { answer = answer; store = store; counts = counts; frames = frames; gains = gains }
