use Rattle.std.proofs.Common.{◌≤◌, Option, Some, None, arith}
use Rattle.std.proofs.lemmas.List.Elements.{All-map, All-weaker}
use Rattle.mas_types.specs.declared.jobs.Job.{Job}
use Rattle.mas_types.specs.declared.jobs.Output.{Output}
use Rattle.mas_types.specs.Limits.{members_most}
use Rattle.lay_bytes.specs.declared.records.JobRec.{JobRec}
use Rattle.lay_bytes.specs.declared.records.OutRec.{OutRec}
use Rattle.lay_bytes.specs.Slots.{IsJobRec, IsOutRec, IfUsed}
use Rattle.lay_bytes.specs.Used.{used}
use Rattle.ckpt_pages.specs.QueueOf.{job_with, output_with}
use Rattle.mas_types.specs.Sorted.{in_order}
use Rattle.ckpt_pages.proofs.SlotLists.{all_used, all_ordered}
use Rattle.queue_report.proofs.laws.law_of_named_queues.Goals as goal

job_named : (slot : Option JobRec) → IfUsed IsJobRec slot → IfUsed (λ (r : JobRec). r.busy.0 ≤ members_most) slot
job_named None is = tt
job_named (Some r) is = is.busy

output_named : (slot : Option OutRec) → IfUsed IsOutRec slot → IfUsed (λ (r : OutRec). r.busy.0 ≤ members_most) slot
output_named None is = tt
output_named (Some r) is = is.busy

pub returns : goal.returns
returns c t deck print fit = record {
  jobs = All-map (λ (j : Job). j.busy.0 ≤ members_most) (job_with deck) (in_order (λ (r : JobRec). r.order) (used t.jobs))
      (all_ordered (λ (r : JobRec). r.order) (λ (r : JobRec). r.busy.0 ≤ members_most) (used t.jobs)
      (all_used (λ (r : JobRec). r.busy.0 ≤ members_most) t.jobs (All-weaker (IfUsed IsJobRec) (IfUsed (λ (r : JobRec). r.busy.0 ≤ members_most)) job_named t.jobs fit.jobs)));
  outputs = All-map (λ (o : Output). o.busy.0 ≤ members_most) (output_with print) (in_order (λ (r : OutRec). r.order) (used t.outputs))
      (all_ordered (λ (r : OutRec). r.order) (λ (r : OutRec). r.busy.0 ≤ members_most) (used t.outputs)
      (all_used (λ (r : OutRec). r.busy.0 ≤ members_most) t.outputs (All-weaker (IfUsed IsOutRec) (IfUsed (λ (r : OutRec). r.busy.0 ≤ members_most)) output_named t.outputs fit.outputs)));
  members = omega (arith, fit.shape.members, fit.shape.config.members.1);
}
