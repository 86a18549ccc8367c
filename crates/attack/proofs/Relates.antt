-- The table and the gain of a kick that attacks. Assumes nothing.
use Rattle.std.proofs.Common.{◌≡◌, ℕ, true, false, T, eqb, sym, refl, ap, ◌∙◌, subst, eqb→eq}
use mathlib.Core.Bool.{and-eq-true_iff}
use lib.Ieee.{Float, binary64, of_bits, to_bits, round, fits}
use lib.Ieee.Bits.{of_bits-to_bits}
use lib.Ieee.Fits.{round-fits}
use Rattle.attack.specs.Machine.{attack_gain}
use Rattle.attack.specs.Kept.{strip_floor, tabled}

-- the strip's floor as the code has it
pub floor_is : of_bits binary64 0x3fe0_09b9_cf33_4253 ≡ strip_floor
unfolding of_bits round
floor_is = refl

-- from the entry k to the j that is k
pub entry : {j : ℕ} {x : Float} (k : ℕ) → j ≡ k → x ≡ attack_gain strip_floor 441 k → x ≡ attack_gain strip_floor 441 j
entry {j} {x} k e rule = subst (λ (n : ℕ). x ≡ attack_gain strip_floor 441 n) (sym e) rule

-- an attack that has the table has its gains: floats of the same bits are the same
pub tabled_says : (floor : Float) (attack : ℕ) → T (fits binary64 floor) → tabled floor attack ≡ true → (j : ℕ) → attack_gain strip_floor 441 j ≡ attack_gain floor attack j
unfolding tabled
tabled_says floor attack f e j =
    let both = (and-eq-true_iff (eqb attack 441) _).0 e in
    let bits : to_bits binary64 floor ≡ to_bits binary64 strip_floor = eqb→eq _ _ (subst T (sym both.1) tt) in
    let same : floor ≡ strip_floor = sym (of_bits-to_bits binary64 floor f) ∙ ap (of_bits binary64) bits ∙ of_bits-to_bits binary64 strip_floor (round-fits binary64 false _ _) in
    let long : attack ≡ 441 = eqb→eq _ _ (subst T (sym both.0) tt) in
    rw (same, long)
