-- `run` meets its contract. Assumes nothing.
use mathlib.Core.Path.{◌≡◌, refl, ◌∙◌}
use lib.ListN.{length}
use Rattle.std.proofs.Common.{rules}
use Rattle.std.specs.Prelude.{Ok, []}
use Rattle.rate.specs.Rate.{rate_of}
use Rattle.rate.proofs.Rates.{usable_44100}
use Rattle.strip.specs.Kept.{state}
use Rattle.strip.specs.Calls.{first, first_of, run_grounds, run_call}
use Rattle.strip.proofs.Refusals.{runs_on}
use Rattle.refusals.proofs.Numbers.{first_is}
use Rattle.part.proofs.Running.{runs, run_done_lem}
use Rattle.part.proofs.run.Goals as goal
use Rattle.part.proofs.run.Goals.{In-Ok}

strip_passes : (c : In-Ok) → first (rate_of 44100) (state c.args.strip c.args.store.now c.args.counts.now) [] ≡ Ok tt
strip_passes c = let e = c.in-Ok.is in search rules

own_passes : (c : In-Ok) → first_of (run_grounds c.args.strip.position c.args.samples.now (length c.args.frames.now) (length c.args.gains.now)) ≡ Ok tt
own_passes c = let e = c.in-Ok.is in search rules

passes : (c : In-Ok)
    → first (rate_of 44100) (state c.args.strip c.args.store.now c.args.counts.now) (run_grounds c.args.strip.position c.args.samples.now (length c.args.frames.now) (length c.args.gains.now)) ≡ Ok tt
passes c = first_is _ _ _ ∙ rw (strip_passes c) (own_passes c)

pub go-requires-clause-runs : goal.go-requires-clause-runs
go-requires-clause-runs c = runs _ _ usable_44100 (strip_passes (goal.at.go-requires-clause-runs c).In-Ok)

pub go-requires-clause-samples_bound : goal.go-requires-clause-samples_bound
go-requires-clause-samples_bound c = (runs_on _ _ _ _ (own_passes (goal.at.go-requires-clause-samples_bound c).In-Ok)).end

pub go-requires-clause-frames_len : goal.go-requires-clause-frames_len
go-requires-clause-frames_len c = let o = runs_on _ _ _ _ (own_passes (goal.at.go-requires-clause-frames_len c).In-Ok) in (o.frames, o.gains)

pub returns-in-Err : goal.returns-in-Err
unfolding run_call
returns-in-Err c = search (rules, first_is)

pub returns-in-Ok : goal.returns-in-Ok
returns-in-Ok c =
    let p = passes (goal.at.returns-in-Ok c).In-Ok in
    let s = c.args in
    run_done_lem (rate_of 44100) (state s.strip s.store.now s.counts.now) s.samples.now s.drums s.frames.now s.gains.now p _ _ _ _ _ _ _ _ _ _ _ c.go.ensures refl refl refl refl refl refl
