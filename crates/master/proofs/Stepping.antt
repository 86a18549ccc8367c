-- A step: what its calls are asked, and what they make together. Assumes nothing.
use Rattle.std.proofs.Common.{◌≡◌, ℕ, ◌+◌, ◌-◌, ◌*◌, ◌%◌, ◌<◌, ◌≤◌, T, List, length, get_or, set, sym, refl, ◌∙◌, subst, arith, length-set}
use lib.Ieee.{Float, nan}
use Rattle.casts.specs.Arithmetic.{◌⊗◌}
use Rattle.casts.specs.Least.{min_f}
use Rattle.casts.specs.Step.{step_of}
use Rattle.rate.specs.declared.CeilingRate.{CeilingRate}
use Rattle.rate.specs.Ceiling.{Usable}
use Rattle.stream.specs.declared.Frame.{Frame}
use Rattle.master.specs.declared.Heard.{Heard}
use Rattle.master.specs.declared.Ceiling.{Ceiling}
use Rattle.master.specs.Ceiling.{need_of, multiplied, delivered}
use Rattle.master.specs.Kept.{CeilingIn, places_of, needs_after, numbers_after, head_after, len_after, released_after, step_place, late_place, late_at, gave, multiplied_step_on, ceiling_step_on}
use Rattle.master.proofs.Bound.{Gain}
use Rattle.master.specs.WellFormed.{well_formed, Sized}
use Rattle.master.proofs.Ready.{Ready, ready_of}
use Rattle.master.proofs.Stays.{need_small, head_lt, step_small, oldest_le, count_le, step_place_lem, late_place_lem}

-- after `enqueue`
pub record Entered (r : CeilingRate) (n : ℕ) (k : CeilingIn) (f : Frame) (need : Float) (queued : Ceiling) (samples : List Float) (counts : List ℕ) : Type 0 where
  pub usable : Usable r
  pub ready : Ready r k
  pub small : Gain need
  pub need_is : need ≡ need_of r f
  pub queued_is : queued ≡ record k.ceiling { head = head_after r n k need; len = len_after r n k need }
  pub samples_are : samples ≡ needs_after r k need
  pub counts_are : counts ≡ numbers_after r n k need

pub entered : (r : CeilingRate) (n : ℕ) (k : CeilingIn) (f : Frame) {need : Float} {queued : Ceiling} {samples : List Float} {counts : List ℕ} → Usable r → Sized r k.samples k.counts → T (well_formed r k)
    → need ≡ need_of r f → queued ≡ record k.ceiling { head = head_after r n k need; len = len_after r n k need } → samples ≡ needs_after r k need → counts ≡ numbers_after r n k need
    → Entered r n k f need queued samples counts
entered r n k f usable sized formed e-need e-queued e-samples e-counts =
    record { usable = usable; ready = ready_of r k sized formed; small = subst Gain (sym e-need) (need_small r f usable); need_is = e-need; queued_is = e-queued; samples_are = e-samples; counts_are = e-counts }

module _ {r : CeilingRate} {n : ℕ} {k : CeilingIn} {f : Frame} {need : Float} {queued : Ceiling} {samples : List Float} {counts : List ℕ} (e : Entered r n k f need queued samples counts) where
  pub head_in : queued.head < length samples
  head_in = rw (e.queued_is, e.samples_are) (simp length-set (omega (arith, head_lt r n k need e.usable e.ready e.small, e.ready.sized.room)))

  abbrev Released : Float → Type 0
  Released x = x ≡ min_f (get_or samples queued.head nan) (k.ceiling.released ⊗ r.rise)

  released_is : (x : Float) → Released x → x ≡ released_after r n k need
  unfolding released_after
  released_is x ex = ex ∙ rw (e.queued_is, e.samples_are)

  pub renewing : (x : Float) (s : ℕ) → Released x → s ≡ step_of x
      → ((step_place r n < length counts) × (r.ahead < 65535)) × ((get_or counts (step_place r n) 0 ≤ k.ceiling.count) × ((k.ceiling.count ≤ 65535 * 1099511627776) × (s ≤ 1099511627776)))
  renewing x s ex es =
      let few : s ≤ 1099511627776 = rw (es, released_is x ex) (step_small r n k need e.usable e.ready e.small) in
      rw e.counts_are (
        (simp length-set (step_place_lem r n k need e.usable e.ready e.small), e.usable.ahead_small),
        (oldest_le r n k need e.usable e.ready e.small, (count_le r n k need e.usable e.ready e.small, few)),
      )

  pub delaying : (late_place r n + 1 < length samples) × (0 < r.ahead)
  delaying = rw e.samples_are (simp length-set (late_place_lem r n k need e.usable e.ready e.small), e.usable.ahead_pos)

  pub together : (x : Float) (s count : ℕ) (late : Frame) (heard : Heard) (samples₂ : List Float) (counts₂ : List ℕ)
      → Released x → s ≡ step_of x
      → count ≡ k.ceiling.count - get_or counts (step_place r n) 0 + s → counts₂ ≡ set counts (step_place r n) s
      → late ≡ late_at (places_of r) samples (n % r.ahead)
      → samples₂ ≡ set (set samples (late_place r n) f.left) (late_place r n + 1) f.right
      → heard ≡ delivered r (multiplied r count late)
      → gave (record queued { released = x; count = count }) samples₂ counts₂ heard ≡ ceiling_step_on r n k f
  unfolding ceiling_step_on multiplied_step_on released_after
  together x s count late heard samples₂ counts₂ ex e-s e-count e-counts e-late e-samples e-heard =
      rw (e-heard, e-samples, e-counts, e-late, e-count, e-s, ex, e.queued_is, e.samples_are, e.counts_are, e.need_is) refl
