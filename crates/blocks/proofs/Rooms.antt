-- The front of an array that was lent and has come back. Assumes nothing.
use mathlib.Core.Path.{◌≡◌, refl, ◌∙◌}
use Prim.Native.Nat.{ℕ, ◌≤◌}
use mathlib.Core.List.{List}
use lib.ListN.{length, drop}
use lib.Seq.{take_at}
use borrow.Rule.Slice.PartMut.{mid_of, put_mid, same_len_mid}

pub mid_put : {X : Type 0} (k : ℕ) (xs ys zs : List X) → length ys ≡ length (mid_of 0 k xs) → length (mid_of 0 k xs) ≡ k → ys ≡ zs → mid_of 0 k (put_mid 0 k xs ys) ≡ zs
mid_put k xs ys zs e f g = take_at ys (drop k xs) k (e ∙ f) ∙ g

pub back : {X : Type 0} (k n : ℕ) (xs ys : List X) → length ys ≡ length (mid_of 0 k xs) → length xs ≡ n → length (put_mid 0 k xs ys) ≡ n
back k n xs ys e h = same_len_mid 0 k xs ys e ∙ h

pub room : {X : Type 0} (k j : ℕ) (xs ys : List X) → length ys ≡ length (mid_of 0 k xs) → j ≤ length xs → j ≤ length (put_mid 0 k xs ys)
room k j xs ys e h = rw (back k (length xs) xs ys e refl) h
