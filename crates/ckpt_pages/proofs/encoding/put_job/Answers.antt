use Rattle.std.proofs.Common.{ap}
use Rattle.lay_bytes.specs.Slots.{job_slot}
use Rattle.ckpt_pages.proofs.Putting.{zeros_stay}
use Rattle.ckpt_pages.proofs.encoding.put_job.Goals as goal

pub returns-in_default-clause-written : goal.returns-in_default-clause-written
returns-in_default-clause-written c =
    zeros_stay 256 c.args.at (job_slot c.args.job.now) c.args.into.now c.requires.zeros (ap job_slot c.in_default.is)
