-- The plate's loops over a block, one list in and two out: what holds after i samples, and that a sample and a group of samples keep it. Assumes nothing.
use Rattle.std.proofs.Common.{◌≡◌, ℕ, zero, suc, ◌+◌, ◌-◌, ◌<◌, ◌≤◌, List, [], ◌∷◌, map, length, get_or, take, drop, set, sym, refl, ap, ◌∙◌, arith, drop-drop, subst}
use lib.ListN.{length-map}
use borrow.Rule.Slice.PartMut.{mid_of, put_mid, mid_len, drop_put}
use lib.Ieee.{Float, nan}
use Rattle.stage.specs.Stage.{Step, ran, outs}
use Rattle.stage.proofs.Laws.{outs_length}
use Rattle.stage.proofs.Block.{gone_outs, gone_block, wrote_block}
use Rattle.stage.proofs.Loop.{Wrote, Ahead, Gone, wrote_start, wrote_done, ahead_start, ahead_turn, ahead_read, gone_start, gone_turn, gone_write_of, gone_done}
use Rattle.stream.specs.declared.Frame.{Frame}
use Rattle.rate.specs.declared.PlateRate.{PlateRate}
use Rattle.plate.specs.Plate.{PlateIn, plate_step_on}

pub record Plating (r : PlateRate) (n : ℕ) (s₀ : PlateIn) (xs : List Float) (s : PlateIn) (ls rs : List Float) (i : ℕ) : Type 0 where
  pub gone : Gone (plate_step_on r) n s₀ xs s i
  pub ahead : Ahead xs ls i
  pub left : Wrote (map (λ (f : Frame). f.left) (outs (plate_step_on r) n s₀ xs)) ls i
  pub right : Wrote (map (λ (f : Frame). f.right) (outs (plate_step_on r) n s₀ xs)) rs i
  pub sized : length rs ≡ length ls
  pub kept : length s.part ≡ length s₀.part

module _ {Y Z : Type 0} (g : Y → Z) where
  map_take : (k : ℕ) (ys : List Y) → map g (take k ys) ≡ take k (map g ys)
  map_take zero ys = refl
  map_take (suc k) [] = refl
  map_take (suc k) (y ∷ ys) = ap (λ (t : List Z). g y ∷ t) (map_take k ys)

  map_drop : (k : ℕ) (ys : List Y) → map g (drop k ys) ≡ drop k (map g ys)
  map_drop zero ys = refl
  map_drop (suc k) [] = refl
  map_drop (suc k) (y ∷ ys) = map_drop k ys

later : (i e : ℕ) (ls xs : List Float) → i ≤ e → drop i ls ≡ drop i xs → drop e ls ≡ drop e xs
later i e ls xs h q = let z : i + (e - i) ≡ e = omega arith in
    ap (λ (j : ℕ). drop j ls) (sym z) ∙ sym (drop-drop (e - i) i ls) ∙ ap (drop (e - i)) q ∙ drop-drop (e - i) i xs ∙ ap (λ (j : ℕ). drop j xs) z

module _ (r : PlateRate) (n : ℕ) (s₀ : PlateIn) (xs : List Float) where
  all : {Z : Type 0} (p : Frame → Z) → length (map p (outs (plate_step_on r) n s₀ xs)) ≡ length xs
  all p = length-map (outs (plate_step_on r) n s₀ xs) p ∙ outs_length (plate_step_on r) n s₀ xs

  pub plate_start : (rs : List Float) → length rs ≡ length xs → Plating r n s₀ xs s₀ xs rs 0
  plate_start rs e =
      record {
        gone = gone_start (plate_step_on r) n s₀ xs;
        ahead = ahead_start xs;
        left = wrote_start _ xs (sym (all (λ (f : Frame). f.left)));
        right = wrote_start _ rs (e ∙ sym (all (λ (f : Frame). f.right)));
        sized = e;
        kept = refl;
      }

  pub plate_turn : (s : PlateIn) (ls rs : List Float) (i : ℕ) (o : Step PlateIn Frame) → Plating r n s₀ xs s ls rs i → i < length ls → length o.next.part ≡ length s.part
      → o ≡ (plate_step_on r) (n + i) s (get_or ls i nan) → Plating r n s₀ xs o.next (set ls i o.out.left) (set rs i o.out.right) (i + 1)
  plate_turn s ls rs i o p h k e =
      let h' : i < length xs = rw p.ahead.sized at h in
      let q : o ≡ (plate_step_on r) (n + i) s (get_or xs i nan) = e ∙ ap ((plate_step_on r) (n + i) s) (ahead_read xs ls i nan p.ahead) in
      let l = gone_write_of (plate_step_on r) n s₀ xs s i nan o p.gone h' q (λ (f : Frame). f.left) ls p.left in
      let h₂ = gone_write_of (plate_step_on r) n s₀ xs s i nan o p.gone h' q (λ (f : Frame). f.right) rs p.right in
      record {
        gone = gone_turn (plate_step_on r) n s₀ xs s i nan o p.gone h' q;
        ahead = ahead_turn xs ls i o.out.left p.ahead;
        left = l;
        right = h₂;
        sized = h₂.sized ∙ all (λ (f : Frame). f.right) ∙ sym (l.sized ∙ all (λ (f : Frame). f.left));
        kept = k ∙ p.kept;
      }

  pub plate_group : (s : PlateIn) (ls rs : List Float) (i e : ℕ) (t : PlateIn) (ls' rs' : List Float) → Plating r n s₀ xs s ls rs i → i ≤ e → e ≤ length ls → length t.part ≡ length s.part
      → t ≡ ran (plate_step_on r) (n + i) s (mid_of i (e - i) ls)
      → ls' ≡ map (λ (f : Frame). f.left) (outs (plate_step_on r) (n + i) s (mid_of i (e - i) ls))
      → rs' ≡ map (λ (f : Frame). f.right) (outs (plate_step_on r) (n + i) s (mid_of i (e - i) ls))
      → Plating r n s₀ xs t (put_mid i (e - i) ls ls') (put_mid i (e - i) rs rs') e
  plate_group s ls rs i e t ls' rs' p h k z q₁ q₂ q₃ =
      let k' : e ≤ length xs = rw p.ahead.sized at k in
      let same : mid_of i (e - i) ls ≡ take (e - i) (drop i xs) = ap (take (e - i)) p.ahead.same in
      let told = gone_outs (plate_step_on r) n s₀ xs s i e p.gone h k' in
      let d = p.sized in
      let side : (g : Frame → Float) → map g (outs (plate_step_on r) (n + i) s (mid_of i (e - i) ls)) ≡ take (e - i) (drop i (map g (outs (plate_step_on r) n s₀ xs)))
      = λ g. ap (λ (b : List Float). map g (outs (plate_step_on r) (n + i) s b)) same ∙ ap (map g) told ∙ map_take g (e - i) (drop i (outs (plate_step_on r) n s₀ xs)) ∙ ap (take (e - i)) (map_drop g i (outs (plate_step_on r) n s₀ xs)) in
      let l = wrote_block _ ls ls' i e p.left h (rw (all (λ (f : Frame). f.left)) k') (q₂ ∙ side (λ (f : Frame). f.left)) in
      let m = wrote_block _ rs rs' i e p.right h (rw (all (λ (f : Frame). f.right)) k') (q₃ ∙ side (λ (f : Frame). f.right)) in
      let few : length ls' ≡ e - i = ap length q₂ ∙ length-map (outs (plate_step_on r) (n + i) s (mid_of i (e - i) ls)) (λ (f : Frame). f.left) ∙ outs_length (plate_step_on r) (n + i) s (mid_of i (e - i) ls) ∙ mid_len i e ls k in
      record {
        gone = gone_block (plate_step_on r) n s₀ xs s i e p.gone h k' t (q₁ ∙ ap (ran (plate_step_on r) (n + i) s) same);
        ahead = record { sized = l.sized ∙ all (λ (f : Frame). f.left); same = drop_put i e ls ls' h k few ∙ later i e ls xs h p.ahead.same };
        left = l;
        right = m;
        sized = m.sized ∙ all (λ (f : Frame). f.right) ∙ sym (l.sized ∙ all (λ (f : Frame). f.left));
        kept = z ∙ p.kept;
      }

  pub plate_up_to : (s : PlateIn) (ls rs : List Float) (e j : ℕ) → e ≡ j → Plating r n s₀ xs s ls rs e → Plating r n s₀ xs s ls rs j
  plate_up_to s ls rs e j same p = let P : ℕ → Type 0 = λ k. Plating r n s₀ xs s ls rs k in subst P same p

  pub plate_done : (s : PlateIn) (ls rs : List Float) (i : ℕ) → Plating r n s₀ xs s ls rs i → length ls ≤ i
      → (s ≡ ran (plate_step_on r) n s₀ xs) × ((ls ≡ map (λ (f : Frame). f.left) (outs (plate_step_on r) n s₀ xs)) × (rs ≡ map (λ (f : Frame). f.right) (outs (plate_step_on r) n s₀ xs)))
  plate_done s ls rs i p h =
      let h' : length xs ≤ i = rw p.ahead.sized at h in
      (gone_done (plate_step_on r) n s₀ xs s i p.gone h', (wrote_done _ ls i p.left (rw (all (λ (f : Frame). f.left)) h'), wrote_done _ rs i p.right (rw (all (λ (f : Frame). f.right)) h')))
