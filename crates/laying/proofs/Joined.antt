-- A list laid behind another that was laid: the two joined. Assumes nothing.
use mathlib.Core.Path.{◌≡◌, sym, ap, ◌∙◌}
use Prim.Native.Nat.{ℕ, ◌-◌}
use native.Mathlib.Nat.{le_refl}
use mathlib.Core.List.{List, [], ◌++◌, append_assoc, append-nil}
use lib.ListN.{length, take, drop, length-append, length-drop, drop_of_length-le}
use lib.Seq.{take_at, drop_at, drop-drop, take-length}
use borrow.Rule.Slice.PartMut.{mid_of, put_mid}
use Rattle.stage.specs.Stage.{over}

pub lay_behind : {X : Type 0} (n : ℕ) (xs ys l : List X) {S T : List X} → length xs ≡ n → S ≡ over xs l → T ≡ over ys (mid_of n (length S - n) S) → put_mid n (length S - n) S T ≡ over (xs ++ ys) l
lay_behind n xs ys l {S} {T} e f g =
    let front : take n S ≡ xs = rw f (take_at xs (drop (length xs) l) n e) in
    let rest : drop n S ≡ drop n l = rw f (drop_at xs (drop (length xs) l) n e ∙ rw e) in
    let k : length S - n ≡ length (drop n l) = sym (length-drop n S) ∙ ap length rest in
    let laid : T ≡ ys ++ drop (length ys) (drop n l) = g ∙ rw (k, rest, take-length (drop n l)) in
    let none : drop (length S - n) (drop n S) ≡ [] = rw (k, rest) (drop_of_length-le (drop n l) (le_refl _)) in
    rw (front, none, laid, drop-drop, append-nil, length-append, e, append_assoc)
