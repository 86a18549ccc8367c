-- The queue's turn: what the code has, beside the definitions. Assumes nothing.
use Rattle.std.proofs.Common.{◌≡◌, ℕ, ◌+◌, ◌%◌, Bool, true, false, get_or, set, sym, ap, ◌∙◌}
use lib.Ieee.{Float}
use Rattle.rate.specs.declared.CeilingRate.{CeilingRate}
use Rattle.master.specs.declared.Ceiling.{Ceiling}
use Rattle.master.proofs.Laws.{count_down_same}
use Rattle.std.proofs.Common.{◌≤◌, length, take, mod-lt, arith, get_or-take, length-take-le}
use lib.Ieee.{nan, le}
use Rattle.master.specs.Kept.{pop_len, CeilingIn, places_of, staying, slot, needs_after, numbers_after, drops, dropped, head_after, len_after}

-- `pops` sees the queue's places alone
pub staying_part : (r : CeilingRate) (k : CeilingIn) (need : Float) → places_of r ≤ length k.samples
    → pop_len le (length (take (places_of r) k.samples)) k.ceiling.head (λ i. get_or (take (places_of r) k.samples) i nan) need k.ceiling.len ≡ staying r k need
staying_part r k need h =
    rw (length-take-le (places_of r) k.samples h)
    (count_down_same _ _ k.ceiling.len (λ j g. ap (le need) (get_or-take (places_of r) k.samples ((k.ceiling.head + j) % places_of r) nan (mod-lt _ (omega arith)))))

-- what `enqueue` ensures, i being the place that it writes
abbrev Enqueued : CeilingRate → ℕ → CeilingIn → Float → ℕ → ℕ → ℕ → Type 0
Enqueued r n k need i head len =
    (◌≡◌ {A = Ceiling} (record k.ceiling { head = head; len = len }) (record k.ceiling { head = head_after r n k need; len = len_after r n k need }))
    × ((set k.samples i need ≡ needs_after r k need) × (set k.counts i n ≡ numbers_after r n k need))

-- stay is what `pops` returned, and goes what `head_goes` did
module _ (r : CeilingRate) (n : ℕ) (k : CeilingIn) (need : Float) (stay i : ℕ) (goes : Bool) (left : stay ≡ staying r k need) (at : i ≡ (k.ceiling.head + stay) % places_of r)
    (decided : goes ≡ drops r.window (places_of r) n (get_or (set k.counts i n) k.ceiling.head 0) (stay + 1)) where
  at_slot : i ≡ slot r k need
  at_slot = at ∙ ap (λ (m : ℕ). (k.ceiling.head + m) % places_of r) left

  dropped_is : goes ≡ dropped r n k need
  dropped_is =
      decided
      ∙ ap (λ (j : ℕ). drops r.window (places_of r) n (get_or (set k.counts j n) k.ceiling.head 0) (stay + 1)) at_slot
      ∙ ap (λ (m : ℕ). drops r.window (places_of r) n (get_or (numbers_after r n k need) k.ceiling.head 0) (m + 1)) left

  stored : (set k.samples i need ≡ needs_after r k need) × (set k.counts i n ≡ numbers_after r n k need)
  stored = (ap (λ (j : ℕ). set k.samples j need) at_slot, ap (λ (j : ℕ). set k.counts j n) at_slot)

  pub head_went : goes ≡ true → (head : ℕ) → head ≡ (k.ceiling.head + 1) % places_of r → Enqueued r n k need i head stay
  unfolding head_after len_after
  head_went h head e = let d : dropped r n k need ≡ true = sym dropped_is ∙ h in rw d (rw (e, left), stored)

  pub head_stayed : goes ≡ false → Enqueued r n k need i k.ceiling.head (stay + 1)
  unfolding head_after len_after
  head_stayed h = let d : dropped r n k need ≡ false = sym dropped_is ∙ h in rw d (rw left, stored)
