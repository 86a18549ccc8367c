-- one sample more
use mathlib.Core.Path.{◌≡◌, refl, ap, subst⁻¹, ◌∙◌}
use mathlib.Core.Bool.{Bool}
use mathlib.Core.List.{List}
use Prim.Native.Nat.{ℕ, ◌+◌, ◌<◌, ◌≤◌}
use native.Mathlib.Omega.{arith}
use lib.ListN.{length, get_or, set, length-set}
use lib.Ieee.{Float, nan}
use Rattle.casts.specs.Arithmetic.{◌⊗◌}
use Rattle.stage.specs.Stage.{Step}
use Rattle.stage.proofs.Loop.{InPlace, in_start, in_turn, in_ran, in_outs}
use Rattle.sidechain.specs.declared.DuckRate.{DuckRate}
use Rattle.duck.specs.Cursors.{DuckIn, duck_on, gave, gain_on, duck_step_on, Within}
use Rattle.duck.proofs.Loops.{gain_within}
use Rattle.duck.proofs.duck_block.Goals as goal

turn : (r : DuckRate) (d : Bool) (n : ℕ) (s₀ : DuckIn) (xs : List Float) (s : DuckIn) (b : List Float) (i : ℕ) (o : Step DuckIn Float)
    → InPlace (duck_step_on r d) n s₀ xs s b i → i < length b → o ≡ gain_on r d (n + i) s
    → InPlace (duck_step_on r d) n s₀ xs o.next (set b i (get_or b i nan ⊗ o.out)) (i + 1)
unfolding duck_step_on
turn r d n s₀ xs s b i o p h e =
    in_turn (duck_step_on r d) n s₀ xs s b i nan (record { next = o.next; out = get_or b i nan ⊗ o.out }) p h
    (ap (λ (g : Step DuckIn Float). record { next = g.next; out = get_or b i nan ⊗ g.out }) e)

pub loop-i-init : goal.loop-i-init
loop-i-init c = (in_start (duck_step_on _ _) _ _ _, c.requires.within, refl)

pub loop-i-preserved : goal.loop-i-preserved
loop-i-preserved c =
    let l = c.loop-i in
    let a = c.args in
    let w = c.duck_two-g in
    let n = a.n + l.i in
    let s = duck_on l.duck l.counts in
    let t = gain_on a.rate a.drums n s in
    let b = set l.block l.i (get_or l.block l.i nan ⊗ w.result.gains.at) in
    let q : n + 1 ≡ a.n + (l.i + 1) = omega arith in
    let z : l.i + 1 + 1 ≡ l.i + 2 = omega arith in
    let first = turn a.rate a.drums a.n _ _ s l.block l.i (record { next = t.next; out = w.result.gains.at }) l.invariant.0 (omega arith)
    (ap (λ (g : Float). record { next = t.next; out = g }) w.ensures.at_value) in (
      rw z at (turn a.rate a.drums a.n _ _ t.next b (l.i + 1) (gave w.result.duck w.new.counts w.result.gains.after) first (simp length-set (omega arith))
          (w.ensures.second_step ∙ ap (λ (m : ℕ). gain_on a.rate a.drums m t.next) q)),
      subst⁻¹ (λ (g : Step DuckIn Float). Within g.next) w.ensures.second_step (gain_within a.rate a.drums (n + 1) t.next (gain_within a.rate a.drums n s l.invariant.1)),
      w.auto.counts ∙ l.invariant.2,
    )

pub returns-then-i-block : goal.returns-then-i-block
returns-then-i-block c =
    let l = c.loop-i in
    let a = c.args in
    let w = c.duck_step-g in
    let f = duck_step_on a.rate a.drums in
    let t = duck_on w.result.duck w.new.counts in
    let b = set l.block l.i (get_or l.block l.i nan ⊗ w.result.gain) in
    let all : length b ≤ l.i + 1 = simp length-set (omega arith) in
    let last = turn a.rate a.drums a.n _ _ (duck_on l.duck l.counts) l.block l.i (gave w.result.duck w.new.counts w.result.gain) l.invariant.0 c.if-i-block.true w.ensures in
    record { duck_after = in_ran f a.n _ _ t b (l.i + 1) last all; block_after = in_outs f a.n _ _ t b (l.i + 1) last all }

pub returns-else-i-block : goal.returns-else-i-block
returns-else-i-block c =
    let l = c.loop-i in
    let a = c.args in
    let f = duck_step_on a.rate a.drums in
    let s = duck_on l.duck l.counts in
    record { duck_after = in_ran f a.n _ _ s l.block l.i l.invariant.0 c.if-i-block.false; block_after = in_outs f a.n _ _ s l.block l.i l.invariant.0 c.if-i-block.false }
