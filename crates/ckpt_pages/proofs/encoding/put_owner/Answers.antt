use Rattle.std.proofs.Common.{ap}
use Rattle.lay_bytes.specs.Slots.{owner_entry}
use Rattle.ckpt_pages.proofs.Putting.{zeros_stay}
use Rattle.ckpt_pages.proofs.encoding.put_owner.Goals as goal

pub returns-in-Free-clause-written : goal.returns-in-Free-clause-written
returns-in-Free-clause-written c =
    zeros_stay 8 c.args.at (owner_entry c.args.owner.now) c.args.into.now c.requires.zeros (ap owner_entry c.in-Free.is)
