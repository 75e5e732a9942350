use Rattle.std.proofs.Common.{take}
use Rattle.mas_types.specs.declared.queues.Thing.TheVariants.{Deck}
use Rattle.track_groups.specs.Places.{groups_of}
use Rattle.job_queue.specs.Jobs.{rec_of, unordered}
use Rattle.warm_start.proofs.Spooling.{HaveTexts}
use Rattle.warm_start.proofs.spooled.jobs_on.Given as goal

abbrev pub invariant-loop-record : goal.invariant-loop-record
invariant-loop-record g l =
    HaveTexts unordered rec_of (λ j. j.text) (λ j. groups_of (Deck j.number) l.tables.owners) g.P.Plant.tells l.tables.config.groups (g.P.Plant.view l.initial.plant) (g.P.Plant.view l.plant) (take l.record-index l.record-items) l.jobs
