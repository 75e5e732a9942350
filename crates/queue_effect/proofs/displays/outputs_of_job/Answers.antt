use Rattle.mas_types.specs.Ids.{same_number}
use Rattle.lay_bytes.specs.declared.records.OutRec.{OutRec}
use Rattle.output_queue.specs.Outputs.{order_of}
use Rattle.queue_effect.proofs.OneJob.{listed_kept}
use Rattle.queue_effect.proofs.displays.outputs_of_job.Goals as goal

pub returns : goal.returns
returns c = rw (c.in_ok-records.ensures, listed_kept order_of (λ (r : OutRec). same_number r.job c.args.job) c.args.slots.now) at c.outputs_in_order.ensures
