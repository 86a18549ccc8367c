-- `master::step` meets its contract, by the laws of `Stepping`. Assumes nothing.
use Rattle.master.specs.Kept.{ceiling_on}
use Rattle.master.proofs.Ready.{ready_of}
use Rattle.master.proofs.Stepping.{entered, head_in, renewing, delaying, together}
use Rattle.master.proofs.step.Goals as goal

pub enqueue-queued-requires-clause-queue_and_position_bounds : goal.enqueue-queued-requires-clause-queue_and_position_bounds
enqueue-queued-requires-clause-queue_and_position_bounds c =
    let a = c.args in
    let y = ready_of a.rate (ceiling_on a.c a.samples.now a.counts.now) c.requires.sized c.requires.is_well_formed in
    (y.at_head, y.full, c.requires.n_lt_last_position)

pub release-released-requires : goal.release-released-requires
release-released-requires c =
    let a = c.args in
    head_in (entered a.rate a.n (ceiling_on a.c a.samples.now a.counts.now) a.f c.requires.usable c.requires.sized c.requires.is_well_formed c.need-wanted.ensures c.enqueue-queued.ensures.queue c.enqueue-queued.ensures.samples c.enqueue-queued.ensures.counts)

pub renew-count-requires : goal.renew-count-requires
renew-count-requires c =
    let a = c.args in
    let p = renewing (entered a.rate a.n (ceiling_on a.c a.samples.now a.counts.now) a.f c.requires.usable c.requires.sized c.requires.is_well_formed c.need-wanted.ensures c.enqueue-queued.ensures.queue c.enqueue-queued.ensures.samples c.enqueue-queued.ensures.counts) _ _ c.release-released.ensures c.steps.ensures in
    record { step_place_in_bounds = p.0; oldest_le_count = p.1.0; count_bound = p.1.1 }

pub delay-late-requires : goal.delay-late-requires
delay-late-requires c =
    let a = c.args in
    delaying (entered a.rate a.n (ceiling_on a.c a.samples.now a.counts.now) a.f c.requires.usable c.requires.sized c.requires.is_well_formed c.need-wanted.ensures c.enqueue-queued.ensures.queue c.enqueue-queued.ensures.samples c.enqueue-queued.ensures.counts)

pub returns : goal.returns
returns c =
    let a = c.args in
    together (entered a.rate a.n (ceiling_on a.c a.samples.now a.counts.now) a.f c.requires.usable c.requires.sized c.requires.is_well_formed c.need-wanted.ensures c.enqueue-queued.ensures.queue c.enqueue-queued.ensures.samples c.enqueue-queued.ensures.counts)
    _ _ _ _ c.play.result _ _
    c.release-released.ensures c.steps.ensures c.renew-count.ensures.value c.renew-count.ensures.counts_after c.delay-late.ensures.value c.delay-late.ensures.samples_after c.play.ensures
