-- What a step asks of the ceiling as it is kept, so that it does not trap: what refusal 4 tests, by its parts, with the stores' lengths. Assumes nothing.
use Rattle.std.proofs.Common.{◌≡◌, ℕ, zero, suc, ◌+◌, ◌%◌, ◌<◌, ◌≤◌, Bool, ◌&&◌, T, eqb, ltb, leb, get_or, sym, ap, ◌∙◌, subst, inl, inr, le_refl, le_of_suc-le-suc, not-suc-le-zero, eq-or-lt_of_le, add-one, arith, le→leb, eqb→eq, ltb→lt, lt→ltb, leb→le}
use lib.Ieee.{Float, nan, le}
use lib.Ieee.Fits.{and_i, and_l, and_r, eq→eqb}
use Rattle.casts.specs.Arithmetic.{nought, one}
use Rattle.rate.specs.declared.CeilingRate.{CeilingRate}
use Rattle.rate.specs.Ceiling.{unit}
use Rattle.master.specs.Kept.{CeilingIn, places_of}
use Rattle.ranges.specs.Ranges.{in_range}
use Rattle.master.specs.WellFormed.{in_unit, every, needs_in, steps_in, sum_at, well_formed, Sized}
use Rattle.master.proofs.Bound.{Gain}

pub record Ready (r : CeilingRate) (k : CeilingIn) : Type 0 where
  pub sized : Sized r k.samples k.counts
  pub at_head : k.ceiling.head < places_of r
  pub full : k.ceiling.len ≤ places_of r
  pub gain : Gain k.ceiling.released
  pub needs : (j : ℕ) → j < k.ceiling.len → Gain (get_or k.samples ((k.ceiling.head + j) % places_of r) nan)
  pub counted : k.ceiling.count ≡ sum_at k.counts (places_of r) (suc r.ahead)
  pub steps : (j : ℕ) → j < suc r.ahead → get_or k.counts (places_of r + j) 0 ≤ unit

pub every_at : (t : ℕ → Bool) (k j : ℕ) → T (every t k) → j < k → T (t j)
unfolding every
every_at t zero j e h = absurd (not-suc-le-zero h)
every_at t (suc k) j e h = elim (eq-or-lt_of_le (le_of_suc-le-suc h)) [ inl q ↦ subst (λ (i : ℕ). T (t i)) (sym q) (and_r (every t k) (t k) e) | inr q ↦ every_at t k j (and_l (every t k) (t k) e) q ]

every_of : (t : ℕ → Bool) (k : ℕ) → ((j : ℕ) → j < k → T (t j)) → T (every t k)
unfolding every
every_of t zero f = tt
every_of t (suc k) f = and_i (every t k) (t k) (every_of t k (λ j h. f j (less j k h))) (f k (le_refl (suc k)))
  where
    less : (j k : ℕ) → j < k → j < suc k
    less j k h = omega arith

gain_of_lem : (x : Float) → T (in_unit x) → Gain x
unfolding in_range
gain_of_lem x t = (and_l (le nought x) (le x one) t, and_r (le nought x) (le x one) t)

of_gain : (x : Float) → Gain x → T (in_unit x)
unfolding in_range
of_gain x g = and_i (le nought x) (le x one) g.0 g.1

module _ (r : CeilingRate) (k : CeilingIn) where
  abbrev queued : ℕ → Float
  queued j = get_or k.samples ((k.ceiling.head + j) % places_of r) nan

  abbrev z : Bool
  z = ltb k.ceiling.head (places_of r)

  abbrev a : Bool
  a = leb k.ceiling.len (places_of r)

  abbrev b : Bool
  b = in_unit k.ceiling.released

  abbrev c : Bool
  c = needs_in k.samples (places_of r) k.ceiling.head k.ceiling.len

  abbrev d : Bool
  d = steps_in k.counts (places_of r) (r.ahead + 1)

  abbrev e : Bool
  e = eqb k.ceiling.count (sum_at k.counts (places_of r) (r.ahead + 1))

  pub ready_of : Sized r k.samples k.counts → T (well_formed r k) → Ready r k
  unfolding well_formed
  ready_of sized t =
      let t₁ : T (a && (b && (c && (d && e)))) = and_r z _ t in
      let t₂ : T (b && (c && (d && e))) = and_r a _ t₁ in
      let t₃ : T (c && (d && e)) = and_r b _ t₂ in
      let t₄ : T (d && e) = and_r c _ t₃ in
      record {
        sized = sized;
        at_head = ltb→lt k.ceiling.head (places_of r) (and_l z _ t);
        full = leb→le k.ceiling.len (places_of r) (and_l a _ t₁);
        gain = gain_of_lem k.ceiling.released (and_l b _ t₂);
        needs = λ j h. gain_of_lem (queued j) (every_at (λ i. in_unit (queued i)) k.ceiling.len j (and_l c _ t₃) h);
        counted = eqb→eq k.ceiling.count (sum_at k.counts (places_of r) (r.ahead + 1)) (and_r d _ t₄) ∙ ap (sum_at k.counts (places_of r)) (add-one r.ahead);
        steps = λ j h. leb→le (get_or k.counts (places_of r + j) 0) unit (every_at (λ i. leb (get_or k.counts (places_of r + i) 0) unit) (r.ahead + 1) j (and_l d _ t₄) (omega arith));
      }

  -- so refusal 4 declines nothing that is ready
  pub of_ready : Ready r k → T (well_formed r k)
  unfolding well_formed
  of_ready y =
      and_i z (a && (b && (c && (d && e)))) (lt→ltb k.ceiling.head (places_of r) y.at_head)
      (and_i a (b && (c && (d && e))) (le→leb k.ceiling.len (places_of r) y.full)
      (and_i b (c && (d && e)) (of_gain k.ceiling.released y.gain)
      (and_i c (d && e) (every_of (λ i. in_unit (queued i)) k.ceiling.len (λ j h. of_gain (queued j) (y.needs j h)))
      (and_i d e (every_of (λ i. leb (get_or k.counts (places_of r + i) 0) unit) (r.ahead + 1) (λ j h. le→leb (get_or k.counts (places_of r + j) 0) unit (y.steps j (omega arith))))
      (eq→eqb (y.counted ∙ ap (sum_at k.counts (places_of r)) (sym (add-one r.ahead))))))))
