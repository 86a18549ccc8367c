-- A line in a part of a store: what a push into the part does to the whole, and what a read of the part reads of the whole.
-- Assumes nothing.
use Rattle.std.proofs.Common.{◌≡◌, ℕ, ◌+◌, ◌-◌, ◌%◌, ◌<◌, ◌≤◌, List, length, ◌∙◌, mod-lt, arith, get_or-drop, get_or-take}
use lib.Ieee.{Float}
use borrow.Rule.Slice.PartMut.{mid_of, put_mid, mid_len, set_mid_at}
use Rattle.delay.specs.Delay.{pushed, tapped, back, store_push, store_tap, tap_of}

module _ (base r : ℕ) (s : List Float) (pos : 0 < r) (fits : base + r ≤ length s) where
  part_length : length (mid_of base (base + r - base) s) ≡ r
  part_length = mid_len base (base + r) s fits ∙ omega arith

  pub push_part : (n : ℕ) (x : Float) (l : List Float) → l ≡ pushed (mid_of base (base + r - base) s) n x → put_mid base (base + r - base) s l ≡ store_push base r s n x
  unfolding store_push
  push_part n x l e =
      rw e
      (set_mid_at base (base + r - base) (n % length (mid_of base (base + r - base) s)) s x (mod-lt n (rw part_length pos))
      ∙ rw part_length)

  pub at_part : (n d : ℕ) → tapped (mid_of base (base + r - base) s) n d ≡ store_tap base r s n d
  unfolding store_tap
  at_part n d =
      let h : back n d % r < r = mod-lt (back n d) pos in
      let k : base + r - base ≡ r = omega arith in
      rw part_length (rw k (rw (get_or-take, get_or-drop)))

  pub tap_part : (n : ℕ) (most d : Float) → tap_of (tapped (mid_of base (base + r - base) s) n) most d ≡ tap_of (store_tap base r s n) most d
  unfolding tap_of
  tap_part n most d = simp at_part
