use Rattle.std.proofs.lemmas.List.Elements.{All-cons, All-nil}
use Rattle.std.proofs.Common.{◌≤◌, [], All, refl, sym, subst}
use Rattle.mas_types.specs.declared.jobs.Job.{Job}
use Rattle.mas_types.specs.Limits.{members_most}
use Rattle.lay_bytes.specs.Used.{used}
use Rattle.queue_effect.specs.Standing.{IsFitJob}
use Rattle.queue_effect.proofs.FitLemmas.{used_get}
use Rattle.queue_effect.proofs.OneJob.{are_front, found_told}
use Rattle.queue_effect.proofs.displays.job_alone.Goals as goal

pub returns-in_default-clause-same : goal.returns-in_default-clause-same
returns-in_default-clause-same c = λ Q stands.
    let same = rw c.as_slice.ensures at c.slots_to-slots.ensures in
    rw (c.new.ensures, c.in_default.ensures.none Q.jobs (are_front c.slots_to-slots.result.now c.args.tables.now.jobs Q.jobs same stands.jobs)) refl

pub returns-clause-named : goal.returns-clause-named
returns-clause-named c =
    let t = c.args.tables.now in
    let front = c.slots_to-slots.result.now in
    let x = c.in-Some.found.item in
    let same = rw c.as_slice.ensures at c.slots_to-slots.ensures in
    let fit : All (IsFitJob t.order) (used front) = subst (All (IsFitJob t.order)) (sym same) c.requires.fit.jobs in
    let busy : c.job_of.result.busy.0 ≤ members_most = rw c.job_of.ensures (used_get (IsFitJob t.order) front c.in-Some.found.at x fit c.in-Some.ensures.here).busy in
    rw (c.in_ok-push.ensures.ok, c.new-jobs.ensures) (All-cons (λ (j : Job). j.busy.0 ≤ members_most) c.job_of.result [] busy (All-nil (λ (j : Job). j.busy.0 ≤ members_most)))

pub returns-clause-same : goal.returns-clause-same
returns-clause-same c = λ Q stands.
    let same = rw c.as_slice.ensures at c.slots_to-slots.ensures in
    let has = c.in-Some.ensures.some Q.jobs (are_front c.slots_to-slots.result.now c.args.tables.now.jobs Q.jobs same stands.jobs) in
    rw (c.in_ok-push.ensures.ok, c.new-jobs.ensures, c.job_of.ensures) (found_told c.args.job Q.jobs c.in-Some.found.item has.item has.found has.is)
