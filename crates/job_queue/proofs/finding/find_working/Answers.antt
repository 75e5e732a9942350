use Rattle.std.proofs.Common.{◌&&◌}
use Rattle.mas_types.specs.Ids.{same_member}
use Rattle.queue_slots.proofs.Founds.{found_here, first_told, none_told}
use Rattle.lay_bytes.specs.declared.records.JobRec.{JobRec}
use Rattle.job_queue.specs.Jobs.{order_of, unordered, rec_of, in_phase}
use Rattle.job_queue.proofs.finding.find_working.Goals as goal

pub returns-clause-here : goal.returns-clause-here
returns-clause-here c = found_here order_of (λ (r : JobRec). in_phase c.args.phase r.phase && same_member r.busy c.args.by) c.args.jobs.now c.first_slot.result c.first_slot.ensures.some

pub returns-clause-some : goal.returns-clause-some
returns-clause-some c = first_told order_of unordered rec_of c.args.jobs.now c.first_slot.result (λ (r : JobRec). in_phase c.args.phase r.phase && same_member r.busy c.args.by) c.first_slot.ensures.some

pub returns-clause-none : goal.returns-clause-none
returns-clause-none c = none_told order_of unordered rec_of c.args.jobs.now c.first_slot.result (λ (r : JobRec). in_phase c.args.phase r.phase && same_member r.busy c.args.by) c.first_slot.ensures.none
