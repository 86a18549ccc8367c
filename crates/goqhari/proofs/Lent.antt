-- A strip that was read has room for the one that is written back. Assumes nothing.
use mathlib.Core.Path.{◌≡◌, refl}
use mathlib.Core.List.{List}
use Prim.Native.Nat.{ℕ, ◌≤◌}
use lib.ListN.{length}
use lib.Ieee.{Float}
use Rattle.std.specs.Prelude.{Result, Ok, Err}
use Rattle.rate.specs.declared.Rate.{Rate}
use Rattle.strip.specs.declared.Refusal.{Refusal}
use Rattle.strip.specs.declared.Strip.{Strip}
use Rattle.packing.specs.declared.UnpackError.{UnpackError}
use Rattle.packing.specs.declared.UnpackError.TheVariants.{Short, Malformed}
use Rattle.packing.specs.Packing.{numbers_long, words_long, unpacked}
use Rattle.packing.proofs.Read.{read}
use Rattle.goqhari.specs.Library.{strip_read, lent_strip}

no_strip : (k : Refusal) (s : Strip) → ◌≡◌ {A = Result Strip Refusal} (Err k) (Ok s) → ⊥
no_strip k s e = cc

pub lent_room : (r : Rate) (ns : List Float) (ws : List ℕ) (store : List Float) (counts : List ℕ) (s : Strip) → lent_strip r ns ws store counts ≡ Ok s → (numbers_long ≤ length ns) × (words_long ≤ length ws)
unfolding lent_strip
lent_room r ns ws store counts s e = by (unpacked ns ws) refl e
  where
    by : (q : Result Strip UnpackError) → unpacked ns ws ≡ q → strip_read r q store counts ≡ Ok s → (numbers_long ≤ length ns) × (words_long ≤ length ws)
    by (Ok t) f e = read ns ws t f
    by (Err Short) f e = absurd (no_strip _ s e)
    by (Err Malformed) f e = absurd (no_strip _ s e)
