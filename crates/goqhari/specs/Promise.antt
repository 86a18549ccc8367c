-- Demand 3 for C: a list of calls on lent memory, what it is answered, and the claim, which is crate strip's. The claim is `LibraryDemand3`, which takes no argument;
-- `library_demand3` in proofs/Joined.antt is a term of it.
use Rattle.std.specs.Prelude.{ℕ, ◌≡◌, cond, List, [], ◌∷◌, map, eqb, get_or, Float}
use Rattle.stage.specs.System.{System, through}
use Rattle.rate.specs.declared.Rate.{Rate}
use Rattle.rate.specs.Rate.{rate_of}
use Rattle.tape.specs.Tape.{Lists}
use Rattle.strip.specs.declared.Setup.{Setup}
use Rattle.strip.specs.declared.Controls.{Controls}
use Rattle.strip.specs.Promise as promise
use Rattle.strip.specs.Promise.{Call, Answer, ran, moved, rests, declined, Joined}
use Rattle.packing.specs.Packing.{flag_of}
use Rattle.packing.specs.Inverse.{Single}
use Rattle.setup.specs.Setup.{number_at, setup_of}
use Rattle.goqhari.specs.Library.{Back, Opening, Running, Resting, drumming, library_open, library_run, library_latch, library_rest}

-- ---- a list of calls

pub data LibraryCall : Type 0 where
  -- samples, drums, and the two outputs as they are lent
  run : List Float → ℕ → List Float → List ℕ → LibraryCall
  latch : Controls → LibraryCall
  -- the word that the answer is written over
  rest : ℕ → LibraryCall

-- the same call of document 01
abbrev pub call_of : LibraryCall → Call
call_of (run xs drums frames gains) = promise.run xs (drumming drums) frames gains
call_of (latch c) = promise.move c
call_of (rest was) = promise.ask

-- the memory of a strip
pub record Lent : Type 0 where
  pub numbers : List Float
  pub words : List ℕ
  pub store : List Float
  pub counts : List ℕ

abbrev pub lent : List Float → List ℕ → List Float → List ℕ → Lent
lent ns ws store counts = record { numbers = ns; words = ws; store = store; counts = counts }

-- an answer of 0 means what the call wrote, any other a refusal
unfoldable pub run_says : Running → Answer
run_says o = cond (eqb o.back.answer 0) (ran o.frames o.gains) (declined o.back.answer)

unfoldable pub latch_says : Back → Answer
latch_says b = cond (eqb b.answer 0) moved (declined b.answer)

unfoldable pub rest_says : Resting → Answer
rest_says o = cond (eqb o.answer 0) (rests (flag_of (get_or o.rests 0 0))) (declined o.answer)

unfoldable pub answer_of : Rate → Lent → LibraryCall → Answer
answer_of r m (run xs drums frames gains) = run_says (library_run r m.numbers m.words xs drums m.store m.counts frames gains)
answer_of r m (latch c) = latch_says (library_latch r m.numbers m.words c m.store m.counts)
answer_of r m (rest was) = rest_says (library_rest r m.numbers m.words (was ∷ []) m.store m.counts)

abbrev pub run_leaves : Running → Lent
run_leaves o = lent o.back.numbers o.back.words o.store o.counts

-- "In a list of calls each is lent the strip and stores just as the call before left them"
unfoldable pub left_by : Rate → Lent → LibraryCall → Lent
left_by r m (run xs drums frames gains) = run_leaves (library_run r m.numbers m.words xs drums m.store m.counts frames gains)
left_by r m (latch c) = let b = library_latch r m.numbers m.words c m.store m.counts in lent b.numbers b.words m.store m.counts
left_by r m (rest was) = m

-- the library, which answers calls on lent memory
abbrev pub library_system : Rate → System Lent LibraryCall Answer
library_system r = record { answer = answer_of r; next = left_by r }

abbrev pub open_leaves : Opening → Lent
open_leaves o = lent o.back.numbers o.back.words o.store o.counts

-- ---- the claim

-- P of every list of calls and the answers to it: "A list of calls starts with the strip and stores just as open left them". `singles` holds f32s, as its type says.
abbrev pub EveryLibraryList : Rate → (Setup → Lists → List Call → List Answer → Type 0) → Type 0
EveryLibraryList r P =
    (singles doubles : List Float) (flags : ℕ) (l : Lists) (ns : List Float) (ws : List ℕ) (store : List Float) (counts : List ℕ)
    → ((k : ℕ) → Single (number_at singles k))
    → (library_open r singles doubles flags l ns ws store counts).back.answer ≡ 0
    → (cs : List LibraryCall) → P (setup_of singles doubles flags) l (map call_of cs) (through (library_system r) (open_leaves (library_open r singles doubles flags l ns ws store counts)) cs)

unfoldable pub LibraryJoinedAt : Rate → Type 0
LibraryJoinedAt r = EveryLibraryList r (Joined r)

-- DEMAND 3 for C, at the rate that is sold: for every setup, lists and memory with which goqhari_open answers 0, and for every list of calls
pub record LibraryDemand3 : Type 0 where
  pub joined : LibraryJoinedAt (rate_of 44100)
