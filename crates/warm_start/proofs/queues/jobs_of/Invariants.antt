use Rattle.std.proofs.Common.{◌≡◌, take, map}
use Rattle.ckpt_pages.specs.QueueOf.{job_with}
use Rattle.warm_start.specs.Bare.{bare_deck}
use Rattle.warm_start.proofs.queues.jobs_of.Given as goal

abbrev pub invariant-loop-record : goal.invariant-loop-record
invariant-loop-record l = l.jobs ≡ map (job_with bare_deck) (take l.record-index l.record-items)
