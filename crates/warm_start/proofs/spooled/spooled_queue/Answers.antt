use Rattle.std.proofs.Common.{List, All, subst, sym}
use Rattle.mas_types.specs.declared.queues.Owner.{Owner}
use Rattle.track_texts.specs.Index.{AreTextGroups}
use Rattle.mas_types.specs.declared.jobs.Job.{Job}
use Rattle.mas_types.specs.declared.queues.Thing.TheVariants.{Deck, Output}
use Rattle.track_groups.specs.Places.{groups_of}
use Rattle.job_queue.specs.Jobs as jobs
use Rattle.output_queue.specs.Outputs as outputs
use Rattle.mas_complex.specs.Texts.{lost_now, spools_at, bytes_on, IsReadUnless}
use Rattle.warm_start.specs.Spooled.{IsGiven}
use Rattle.ckpt_copy.specs.Moments.{goes_none}
use Rattle.spool_volumes.proofs.LookLemmas.{looks_then}
use Rattle.warm_start.proofs.Spooling.{are_given, clean_later, given_later, has_texts, later_texts, steady_first, steady_then}
use Rattle.warm_start.proofs.spooled.spooled_queue.Goals as goal

pub jobs_on-requires-clause-index : goal.jobs_on-requires-clause-index
jobs_on-requires-clause-index g c = subst (λ (os : List Owner). AreTextGroups c.in_ok-texts.texts os) c.as_slice.ensures c.in_ok-texts.ensures

pub outputs_on-requires-clause-index : goal.outputs_on-requires-clause-index
outputs_on-requires-clause-index g c = subst (λ (os : List Owner). AreTextGroups c.in_ok-texts.texts os) c.as_slice.ensures c.in_ok-texts.ensures

pub returns-in_err-jobs-clause-looks : goal.returns-in_err-jobs-clause-looks
returns-in_err-jobs-clause-looks g c =
    let P = g.P.Plant in
    looks_then (P.view c.args.plant.now) (P.view c.sync_volumes.new.plant) (P.view c.jobs_on.new.plant) P.tells 0 c.sync_volumes.ensures.looks c.jobs_on.ensures.looks

pub returns-in_err-outputs-clause-looks : goal.returns-in_err-outputs-clause-looks
returns-in_err-outputs-clause-looks g c =
    let P = g.P.Plant in
    let first = P.view c.sync_volumes.new.plant in
    let new = P.view c.outputs_on.new.plant in
    looks_then (P.view c.args.plant.now) first new P.tells 0 c.sync_volumes.ensures.looks (looks_then first (P.view c.jobs_on.new.plant) new P.tells 0 c.jobs_on.ensures.looks c.outputs_on.ensures.looks)

pub returns-in_err-copy-clause-looks : goal.returns-in_err-copy-clause-looks
returns-in_err-copy-clause-looks g c =
    let P = g.P.Plant in
    let first = P.view c.sync_volumes.new.plant in
    let new = P.view c.outputs_on.new.plant in
    looks_then (P.view c.args.plant.now) first new P.tells 0 c.sync_volumes.ensures.looks (looks_then first (P.view c.jobs_on.new.plant) new P.tells 0 c.jobs_on.ensures.looks c.outputs_on.ensures.looks)

pub returns-in_err-copy-2-clause-looks : goal.returns-in_err-copy-2-clause-looks
returns-in_err-copy-2-clause-looks g c =
    let P = g.P.Plant in
    let first = P.view c.sync_volumes.new.plant in
    let new = P.view c.outputs_on.new.plant in
    looks_then (P.view c.args.plant.now) first new P.tells 0 c.sync_volumes.ensures.looks (looks_then first (P.view c.jobs_on.new.plant) new P.tells 0 c.jobs_on.ensures.looks c.outputs_on.ensures.looks)

pub returns-in_err-copy-3-clause-looks : goal.returns-in_err-copy-3-clause-looks
returns-in_err-copy-3-clause-looks g c =
    let P = g.P.Plant in
    let first = P.view c.sync_volumes.new.plant in
    let new = P.view c.outputs_on.new.plant in
    looks_then (P.view c.args.plant.now) first new P.tells 0 c.sync_volumes.ensures.looks (looks_then first (P.view c.jobs_on.new.plant) new P.tells 0 c.jobs_on.ensures.looks c.outputs_on.ensures.looks)

pub returns-in_err-copy-4-clause-looks : goal.returns-in_err-copy-4-clause-looks
returns-in_err-copy-4-clause-looks g c =
    let P = g.P.Plant in
    let first = P.view c.sync_volumes.new.plant in
    let new = P.view c.outputs_on.new.plant in
    looks_then (P.view c.args.plant.now) first new P.tells 0 c.sync_volumes.ensures.looks (looks_then first (P.view c.jobs_on.new.plant) new P.tells 0 c.jobs_on.ensures.looks c.outputs_on.ensures.looks)

pub returns-clause-looks : goal.returns-clause-looks
returns-clause-looks g c =
    let P = g.P.Plant in
    let first = P.view c.sync_volumes.new.plant in
    let new = P.view c.outputs_on.new.plant in
    looks_then (P.view c.args.plant.now) first new P.tells 0 c.sync_volumes.ensures.looks (looks_then first (P.view c.jobs_on.new.plant) new P.tells 0 c.jobs_on.ensures.looks c.outputs_on.ensures.looks)

pub returns-clause-texts : goal.returns-clause-texts
returns-clause-texts g c told =
    let P = g.P.Plant in
    let t = c.args.tables.now in
    let shape = c.requires.spelling.shape in
    let first = P.view c.sync_volumes.new.plant in
    let mid = P.view c.jobs_on.new.plant in
    let new = P.view c.outputs_on.new.plant in
    let two = c.outputs_on.ensures.looks in
    let all = looks_then first mid new P.tells 0 c.jobs_on.ensures.looks two in
    let clean = clean_later first new t.config.volumes (all.during told) (c.sync_volumes.ensures.synced told) in
    let read_jobs = later_texts jobs.unordered jobs.rec_of (λ j. j.text) (λ j. groups_of (Deck j.number) t.owners) P.tells t.config.groups first mid new c.in_ok-jobs.jobs (all.during told) two.goes (c.in_ok-jobs.ensures.texts told) in
    let read_outputs = later_texts outputs.unordered outputs.rec_of (λ o. o.text) (λ o. groups_of (Output o.job o.index) t.owners) P.tells t.config.groups mid new new c.in_ok-outputs.outputs (two.during told) (goes_none new) (c.in_ok-outputs.ensures.texts told) in
    has_texts t.config shape.config t.owners c.law_of_places.ensures.own shape.owners new clean _ c.in_ok-copy.ensures
    (subst (λ (js : List Job). All (λ (j : Job). IsReadUnless (lost_now new) (bytes_on (spools_at new new.now)) t.config.groups j.text (groups_of (Deck j.number) t.owners)) js) (sym c.jobs.view_is) read_jobs)
    read_outputs

pub returns-clause-given : goal.returns-clause-given
returns-clause-given g c told steady =
    let P = g.P.Plant in
    let t = c.args.tables.now in
    let old = P.view c.args.plant.now in
    let first = P.view c.sync_volumes.new.plant in
    let mid = P.view c.jobs_on.new.plant in
    let new = P.view c.outputs_on.new.plant in
    let one = c.jobs_on.ensures.looks in
    let two = c.outputs_on.ensures.looks in
    let all = looks_then first mid new P.tells 0 one two in
    let since = steady_then old first new c.sync_volumes.ensures.looks.goes all.goes steady in
    let given_jobs = given_later jobs.unordered jobs.rec_of (λ j. j.text) (λ j. groups_of (Deck j.number) t.owners) P.tells t.config.groups first new c.in_ok-jobs.jobs (all.during told) since (c.in_ok-jobs.ensures.given told (steady_first first mid new one.goes two.goes since)) in
    let behind = steady_then first mid new one.goes two.goes since in
    let given_outputs = given_later outputs.unordered outputs.rec_of (λ o. o.text) (λ o. groups_of (Output o.job o.index) t.owners) P.tells t.config.groups mid new c.in_ok-outputs.outputs (two.during told) behind (c.in_ok-outputs.ensures.given told behind) in
    are_given new t.config.groups t.owners _ c.in_ok-copy.ensures
    (subst (λ (js : List Job). All (λ (j : Job). IsGiven new t.config.groups j.text (groups_of (Deck j.number) t.owners)) js) (sym c.jobs.view_is) given_jobs)
    given_outputs
