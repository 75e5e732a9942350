use Rattle.std.proofs.Common.{get_or}
use Rattle.mas_types.specs.declared.queues.Thing.TheVariants.{Output}
use Rattle.track_groups.specs.Places.{groups_of}
use Rattle.output_queue.specs.Outputs.{rec_of, unordered}
use Rattle.warm_start.proofs.Spooling.{told_output, next_one}
use Rattle.spool_volumes.proofs.LookLemmas.{looks_then}
use Rattle.warm_start.proofs.spooled.outputs_on.Goals as goal

pub returns-in_err-text-clause-looks : goal.returns-in_err-text-clause-looks
returns-in_err-text-clause-looks g c =
    looks_then (g.P.Plant.view c.args.plant.now) (g.P.Plant.view c.loop-record.plant) (g.P.Plant.view c.text_in.new.plant) g.P.Plant.tells 0 c.loop-record.invariant.looks c.text_in.ensures.looks

pub returns-in_err-push-clause-looks : goal.returns-in_err-push-clause-looks
returns-in_err-push-clause-looks g c =
    looks_then (g.P.Plant.view c.args.plant.now) (g.P.Plant.view c.loop-record.plant) (g.P.Plant.view c.text_in.new.plant) g.P.Plant.tells 0 c.loop-record.invariant.looks c.text_in.ensures.looks

pub loop-record-preserved : goal.loop-record-preserved
loop-record-preserved g c =
    let items = c.as_slice-record-items.result.now in
    let i = c.loop-record.record-index in
    rw c.in_ok-push.ensures.ok
    (next_one unordered rec_of (λ o. o.text) (λ o. groups_of (Output o.job o.index) c.args.tables.now.owners) g.P.Plant.tells c.args.tables.now.config.groups (g.P.Plant.view c.args.plant.now) (g.P.Plant.view c.loop-record.plant) (g.P.Plant.view c.text_in.new.plant)
    items i _ c.loop-record.outputs _ c.loop-record-test.true c.loop-record.invariant c.text_in.ensures.looks (told_output (get_or items i _) c.in_ok-text.text c.in_ok-text.ensures.count) c.in_ok-text.ensures.text c.in_ok-text.ensures.given c.in_ok-text.ensures.limited)
