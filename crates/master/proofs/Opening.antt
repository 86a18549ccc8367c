-- A fresh ceiling, in parts that held anything: it holds the fresh machine, and passes refusal 4. Assumes nothing.
use Rattle.std.proofs.Common.{◌≡◌, ℕ, zero, suc, ◌+◌, ◌*◌, ◌<◌, ◌≤◌, T, List, length, get_or, set, sym, refl, ap, ◌∙◌, subst, inl, inr, le_refl, le_of_suc-le-suc, not-suc-le-zero, suc-mul, eq-or-lt_of_le, add-one, arith, length-set, get_or-set_other, get_or-set_same}
use lib.Ieee.{Float, nan}
use Rattle.casts.specs.Arithmetic.{nought}
use Rattle.stage.specs.Stage.{ran, outs}
use Rattle.rate.specs.declared.CeilingRate.{CeilingRate}
use Rattle.rate.specs.Ceiling.{unit, Usable}
use Rattle.stream.specs.declared.Frame.{Frame}
use Rattle.master.specs.Ceiling.{fresh_machine, ceiling_step}
use Rattle.rate.specs.Stores.{ceiling_samples}
use Rattle.master.specs.Kept.{CeilingIn, places_of, filled, ceiling_fresh, ceiling_step_on}
use Rattle.master.specs.WellFormed.{Sized, sum_at, well_formed}
use Rattle.master.proofs.Bound.{gain_one}
use Rattle.master.proofs.Ready.{Ready, of_ready}
use Rattle.master.proofs.Stays.{ready_ran}
use Rattle.master.proofs.Refines.{Fresh, same_heard}
use Rattle.std.proofs.lemmas.List.{take-append-drop, length-replicate, replicate_more}
use Rattle.std.proofs.Math.ListN.{replicate}
use Rattle.std.proofs.Math.Seq.{set-append_seam}
use borrow.Rule.Slice.PartMut.{put_mid}
use native.Mathlib.Nat.{add-sub_cancel_left}
use Rattle.std.proofs.Common.{◌-◌, drop-drop, length-drop, zero-add, ◌++◌, ◌∷◌, [], take, drop, append_assoc, drop-cons, add-zero, add-suc, length-append, length-take-le}

pub filled_length : {A : Type 0} (l : List A) (b k : ℕ) (v : A) → length (filled l b k v) ≡ length l
unfolding filled
filled_length l b zero v = refl
filled_length l b (suc k) v = length-set (filled l b k v) (b + k) v ∙ filled_length l b k v

-- ---- parts that `fill` filled
filled_fill : {A : Type 0} (l : List A) (b k : ℕ) (v : A) → b + k ≤ length l → take b l ++ (replicate k v ++ drop (b + k) l) ≡ filled l b k v
unfolding filled
filled_fill l b zero v h = rw add-zero (take-append-drop b l)
filled_fill {A = A} l b (suc k) v h =
    let m : b + k < length l = omega arith in
    let xs = take b l ++ replicate k v in
    let long : length xs ≡ b + k = length-append (take b l) (replicate k v) ∙ rw (length-take-le b l (omega arith), length-replicate k v) in
    let seam : set (xs ++ get_or l (b + k) v ∷ drop (suc (b + k)) l) (b + k) v ≡ xs ++ v ∷ drop (suc (b + k)) l = subst (λ (n : ℕ). set (xs ++ get_or l (b + k) v ∷ drop (suc (b + k)) l) n v ≡ xs ++ v ∷ drop (suc (b + k)) l) long (set-append_seam xs (get_or l (b + k) v) (drop (suc (b + k)) l) v) in
    let more : xs ++ v ∷ drop (suc (b + k)) l ≡ take b l ++ (replicate (suc k) v ++ drop (b + suc k) l) =
    rw (append_assoc, add-suc b k) (ap (λ (ys : List A). take b l ++ ys) (sym (append_assoc (replicate k v) (v ∷ []) (drop (suc (b + k)) l)) ∙ ap (λ (ys : List A). ys ++ drop (suc (b + k)) l) (replicate_more k v ∙ ap (λ (n : ℕ). replicate n v) (add-one k)))) in
    sym (ap (λ (ys : List A). set ys (b + k) v) (sym (filled_fill l b k v (omega arith)) ∙ ap (λ (ys : List A). take b l ++ (replicate k v ++ ys)) (drop-cons l (b + k) v m) ∙ sym (append_assoc (take b l) (replicate k v) (get_or l (b + k) v ∷ drop (suc (b + k)) l))) ∙ seam ∙ more)

pub filled_front : {A : Type 0} (l new : List A) (k : ℕ) (v : A) → k ≤ length l → new ≡ replicate (length (take k l)) v → new ++ drop k l ≡ filled l 0 k v
filled_front l new k v h e =
    let z : 0 + k ≡ k = zero-add k in
    let g : 0 + k ≤ length l = omega arith in
    rw (e, length-take-le k l h) (rw z at (filled_fill l 0 k v g))

pub filled_mid : {A : Type 0} (l new : List A) (b k : ℕ) (v : A) → b + k ≤ length l → new ≡ replicate (length (take (b + k - b) (drop b l))) v → put_mid b (b + k - b) l new ≡ filled l b k v
filled_mid l new b k v h e =
    let g : k ≤ length (drop b l) = rw (length-drop b l) (omega arith) in
    rw (e, add-sub_cancel_left, length-take-le k (drop b l) g, drop-drop) (filled_fill l b k v h)

filled_in : {A : Type 0} (l : List A) (b k : ℕ) (v d : A) (j : ℕ) → j < k → b + k ≤ length l → get_or (filled l b k v) (b + j) d ≡ v
unfolding filled
filled_in l b zero v d j h g = absurd (not-suc-le-zero h)
filled_in l b (suc k) v d j h g = elim (eq-or-lt_of_le (le_of_suc-le-suc h)) [ inl e ↦ here e | inr q ↦ there q (filled_in l b k v d j q (omega arith)) ]
  where
    here : j ≡ k → get_or (set (filled l b k v) (b + k) v) (b + j) d ≡ v
    here e = rw e (get_or-set_same (filled l b k v) (b + k) v d (rw (filled_length l b k v) (omega arith)))

    there : j < k → get_or (filled l b k v) (b + j) d ≡ v → get_or (set (filled l b k v) (b + k) v) (b + j) d ≡ v
    there q e = get_or-set_other (filled l b k v) (b + k) (b + j) v d (λ x. omega arith) ∙ e

module _ (r : CeilingRate) (usable : Usable r) (k : CeilingIn) (fresh : Fresh r k) where
  sum_of : (m : ℕ) → m ≤ r.ahead + 1 → sum_at k.counts (places_of r) m ≡ m * unit
  unfolding sum_at
  sum_of zero h = refl
  sum_of (suc m) h = ap (λ (n : ℕ). n + get_or k.counts (places_of r + m) 0) (sum_of m (omega arith)) ∙ ap (λ (n : ℕ). m * unit + n) (fresh.steps m (omega arith)) ∙ sym (suc-mul m unit)

  pub fresh_ready : Ready r k
  fresh_ready =
      record {
        sized = fresh.sized;
        at_head = fresh.at_head;
        full = omega (arith, fresh.empty);
        gain = rw fresh.released gain_one;
        needs = λ j h. absurd (omega (arith, fresh.empty));
        counted = fresh.counted ∙ ap (λ (n : ℕ). n * unit) (add-one r.ahead) ∙ sym (sum_of (suc r.ahead) (omega arith));
        steps = λ j h. subst (λ (x : ℕ). x ≤ unit) (sym (fresh.steps j (omega arith))) (le_refl unit);
      }

  -- refusal 4 declines nothing that a list of frames makes of a fresh ceiling
  pub fresh_well_formed : (fs : List Frame) → T (well_formed r (ran (ceiling_step_on r) 0 k fs))
  fresh_well_formed fs = of_ready r (ran (ceiling_step_on r) 0 k fs) (ready_ran r usable 0 k fs fresh_ready)

module _ (r : CeilingRate) (samples : List Float) (counts : List ℕ) (sized : Sized r samples counts) where
  late_is : (j : ℕ) → j < 2 * r.ahead → get_or (filled samples 0 (ceiling_samples r) nought) (places_of r + j) nan ≡ nought
  late_is j h =
      let z : 0 + (places_of r + j) ≡ places_of r + j = omega arith in
      subst (λ (x : ℕ). get_or (filled samples 0 (ceiling_samples r) nought) x nan ≡ nought) z (filled_in samples 0 (ceiling_samples r) nought nan (places_of r + j) (omega arith) (omega (arith, sized.room)))

  pub fresh_is : Fresh r (ceiling_fresh r samples counts)
  unfolding ceiling_fresh
  fresh_is =
      record {
        sized = record {
          room = rw (filled_length samples 0 (ceiling_samples r) nought) sized.room;
          rooms = rw (filled_length (filled counts 0 (places_of r) 0) (places_of r) (r.ahead + 1) unit, filled_length counts 0 (places_of r) 0) sized.rooms;
        };
        at_head = omega arith;
        empty = refl;
        released = refl;
        counted = refl;
        steps = λ j h. filled_in (filled counts 0 (places_of r) 0) (places_of r) (r.ahead + 1) unit 0 j h (rw (filled_length counts 0 (places_of r) 0) sized.rooms);
        late = late_is;
      }

  -- so the frames and gain counts of a ceiling that `fresh` made are the machine's, for every list of frames
  pub fresh_heard : Usable r → (fs : List Frame) → outs (ceiling_step_on r) 0 (ceiling_fresh r samples counts) fs ≡ outs (ceiling_step r) 0 fresh_machine fs
  fresh_heard usable fs = same_heard r usable (ceiling_fresh r samples counts) fresh_is fs
