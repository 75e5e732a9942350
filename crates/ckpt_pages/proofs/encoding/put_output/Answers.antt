use Rattle.std.proofs.Common.{ap}
use Rattle.lay_bytes.specs.Slots.{output_slot}
use Rattle.ckpt_pages.proofs.Putting.{zeros_stay}
use Rattle.ckpt_pages.proofs.encoding.put_output.Goals as goal

pub returns-in_default-clause-written : goal.returns-in_default-clause-written
returns-in_default-clause-written c =
    zeros_stay 128 c.args.at (output_slot c.args.output.now) c.args.into.now c.requires.zeros (ap output_slot c.in_default.is)
