-- The loop over a block: what holds after i frames, and that a turn keeps it. Assumes nothing.
use Rattle.std.proofs.Common.{◌≡◌, ℕ, zero, suc, ◌+◌, ◌*◌, ◌<◌, ◌≤◌, List, [], ◌∷◌, length, get_or, set, sym, refl, ap, ◌∙◌, subst, arith}
use lib.ListN.{length-map}
use lib.Ieee.{Float, nan}
use Rattle.stage.specs.Stage.{Step, ran, outs}
use Rattle.stage.proofs.Laws.{outs_length}
use Rattle.stage.proofs.Loop.{Wrote, Gone, wrote_start, wrote_turn, wrote_done, gone_start, gone_turn, gone_out, gone_write_of, gone_done}
use Rattle.rate.specs.declared.CeilingRate.{CeilingRate}
use Rattle.rate.specs.Ceiling.{Usable}
use Rattle.stream.specs.declared.Frame.{Frame}
use Rattle.master.specs.declared.Heard.{Heard}
use Rattle.master.specs.Kept.{CeilingIn, ceiling_step_on, frames_in, frames_out, counts_out}
use Rattle.master.proofs.Ready.{Ready}
use Rattle.master.proofs.Stays.{ready_next}

-- ---- the lists
pub in_length : (ls rs : List Float) → length rs ≡ length ls → length (frames_in ls rs) ≡ length ls
unfolding frames_in
in_length [] rs e = refl
in_length (l ∷ ls) [] e = absurd (omega arith)
in_length (l ∷ ls) (r ∷ rs) e = ap suc (in_length ls rs (omega arith))

in_at : (ls rs : List Float) (i : ℕ) (d : Frame) → length rs ≡ length ls → i < length ls → get_or (frames_in ls rs) i d ≡ record { left = get_or ls i nan; right = get_or rs i nan }
unfolding frames_in
in_at [] rs i d e h = absurd (omega arith)
in_at (l ∷ ls) [] i d e h = absurd (omega arith)
in_at (l ∷ ls) (r ∷ rs) zero d e h = refl
in_at (l ∷ ls) (r ∷ rs) (suc i) d e h = in_at ls rs i d (omega arith) (omega arith)

pub out_length : (hs : List Heard) → length (frames_out hs) ≡ 2 * length hs
unfolding frames_out
out_length [] = refl
out_length (h ∷ hs) = let e : length (frames_out hs) ≡ 2 * length hs = out_length hs in omega arith

out_left : (hs : List Heard) (i : ℕ) (d : Float) (h : Heard) → i < length hs → get_or (frames_out hs) (2 * i) d ≡ (get_or hs i h).left
unfolding frames_out
out_left [] i d h l = absurd (omega arith)
out_left (x ∷ hs) zero d h l = refl
out_left (x ∷ hs) (suc i) d h l = let k : 2 * suc i ≡ suc (suc (2 * i)) = omega arith in rw k (out_left hs i d h (omega arith))

out_right : (hs : List Heard) (i : ℕ) (d : Float) (h : Heard) → i < length hs → get_or (frames_out hs) (2 * i + 1) d ≡ (get_or hs i h).right
unfolding frames_out
out_right [] i d h l = absurd (omega arith)
out_right (x ∷ hs) zero d h l = refl
out_right (x ∷ hs) (suc i) d h l = let k : 2 * suc i + 1 ≡ suc (suc (2 * i + 1)) = omega arith in rw k (out_right hs i d h (omega arith))

-- ---- the loop
abbrev want : CeilingRate → ℕ → CeilingIn → List Float → List Float → List Heard
want r n s₀ ls rs = outs (ceiling_step_on r) n s₀ (frames_in ls rs)

pub record Running (r : CeilingRate) (n : ℕ) (s₀ : CeilingIn) (ls rs : List Float) (s : CeilingIn) (frames : List Float) (gains : List ℕ) (i : ℕ) : Type 0 where
  pub ready : Ready r s
  pub gone : Gone (ceiling_step_on r) n s₀ (frames_in ls rs) s i
  pub framed : Wrote (frames_out (want r n s₀ ls rs)) frames (2 * i)
  pub gained : Wrote (counts_out (want r n s₀ ls rs)) gains i
  pub frames_long : length frames ≡ 2 * length ls
  pub gains_long : length gains ≡ length ls
  pub samples_long : length s.samples ≡ length s₀.samples
  pub counts_long : length s.counts ≡ length s₀.counts

module _ (r : CeilingRate) (usable : Usable r) (n : ℕ) (s₀ : CeilingIn) (ls rs : List Float) (same : length rs ≡ length ls) where
  abbrev hs : List Heard
  hs = want r n s₀ ls rs

  want_length : length hs ≡ length ls
  want_length = outs_length (ceiling_step_on r) n s₀ (frames_in ls rs) ∙ in_length ls rs same

  want_counts : length (counts_out hs) ≡ length ls
  want_counts = length-map hs (λ (h : Heard). h.count) ∙ want_length

  want_frames : length (frames_out hs) ≡ 2 * length ls
  want_frames = out_length hs ∙ ap (λ (k : ℕ). 2 * k) want_length

  pub block_start : (frames : List Float) (gains : List ℕ) → Ready r s₀ → length frames ≡ 2 * length ls → length gains ≡ length ls → Running r n s₀ ls rs s₀ frames gains 0
  block_start frames gains y e g =
      record {
        ready = y;
        gone = gone_start (ceiling_step_on r) n s₀ (frames_in ls rs);
        framed = wrote_start (frames_out hs) frames (e ∙ sym want_frames);
        gained = wrote_start (counts_out hs) gains (g ∙ sym want_counts);
        frames_long = e;
        gains_long = g;
        samples_long = refl;
        counts_long = refl;
      }

  pub block_turn : (s : CeilingIn) (frames : List Float) (gains : List ℕ) (i : ℕ) (o : Step CeilingIn Heard) → Running r n s₀ ls rs s frames gains i → i < length ls
      → length o.next.samples ≡ length s.samples → length o.next.counts ≡ length s.counts
      → o ≡ ceiling_step_on r (n + i) s (record { left = get_or ls i nan; right = get_or rs i nan })
      → Running r n s₀ ls rs o.next (set (set frames (2 * i) o.out.left) (2 * i + 1) o.out.right) (set gains i o.out.count) (i + 1)
  block_turn s frames gains i o p h a b e =
      let d : Frame = record { left = nan; right = nan } in
      let h' : i < length (frames_in ls rs) = rw (in_length ls rs same) h in
      let q : o ≡ ceiling_step_on r (n + i) s (get_or (frames_in ls rs) i d) = rw (in_at ls rs i d same h) e in
      let w : i < length hs = rw want_length h in
      let out : get_or hs i o.out ≡ o.out = gone_out (ceiling_step_on r) n s₀ (frames_in ls rs) s i d o p.gone h' q o.out in
      let k : 2 * (i + 1) ≡ 2 * i + 1 + 1 = omega arith in
      let f : Wrote (frames_out hs) (set (set frames (2 * i) o.out.left) (2 * i + 1) o.out.right) (2 * (i + 1)) =
      rw k
      (wrote_turn (frames_out hs) (set frames (2 * i) o.out.left) (2 * i + 1) o.out.right nan
      (wrote_turn (frames_out hs) frames (2 * i) o.out.left nan p.framed (omega (arith, want_frames)) (out_left hs i nan o.out w ∙ ap (λ (x : Heard). x.left) out))
      (omega (arith, want_frames)) (out_right hs i nan o.out w ∙ ap (λ (x : Heard). x.right) out)) in
      let g = gone_write_of (ceiling_step_on r) n s₀ (frames_in ls rs) s i d o p.gone h' q (λ (x : Heard). x.count) gains p.gained in
      record {
        ready = subst (λ (x : Step CeilingIn Heard). Ready r x.next) (sym e) (ready_next r usable (n + i) s (record { left = get_or ls i nan; right = get_or rs i nan }) p.ready);
        gone = gone_turn (ceiling_step_on r) n s₀ (frames_in ls rs) s i d o p.gone h' q;
        framed = f;
        gained = g;
        frames_long = f.sized ∙ want_frames;
        gains_long = g.sized ∙ want_counts;
        samples_long = a ∙ p.samples_long;
        counts_long = b ∙ p.counts_long;
      }

  pub block_done : (s : CeilingIn) (frames : List Float) (gains : List ℕ) (i : ℕ) → Running r n s₀ ls rs s frames gains i → length ls ≤ i
      → (s ≡ ran (ceiling_step_on r) n s₀ (frames_in ls rs)) × ((frames ≡ frames_out hs) × (gains ≡ counts_out hs))
  block_done s frames gains i p h =
      let h' : length (frames_in ls rs) ≤ i = rw (in_length ls rs same) h in (
        gone_done (ceiling_step_on r) n s₀ (frames_in ls rs) s i p.gone h',
        (wrote_done (frames_out hs) frames (2 * i) p.framed (omega (arith, want_frames)), wrote_done (counts_out hs) gains i p.gained (rw want_counts h)),
      )
