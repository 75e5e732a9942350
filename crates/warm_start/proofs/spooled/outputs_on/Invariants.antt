use Rattle.std.proofs.Common.{take}
use Rattle.mas_types.specs.declared.queues.Thing.TheVariants.{Output}
use Rattle.track_groups.specs.Places.{groups_of}
use Rattle.output_queue.specs.Outputs.{rec_of, unordered}
use Rattle.warm_start.proofs.Spooling.{HaveTexts}
use Rattle.warm_start.proofs.spooled.outputs_on.Given as goal

abbrev pub invariant-loop-record : goal.invariant-loop-record
invariant-loop-record g l =
    HaveTexts unordered rec_of (λ o. o.text) (λ o. groups_of (Output o.job o.index) l.tables.owners) g.P.Plant.tells l.tables.config.groups (g.P.Plant.view l.initial.plant) (g.P.Plant.view l.plant) (take l.record-index l.record-items) l.outputs
