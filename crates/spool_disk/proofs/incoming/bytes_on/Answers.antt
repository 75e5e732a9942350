use Rattle.std.proofs.Common.{◌∙◌, ap, sym}
use Rattle.spool_disk.proofs.Slots.{at_get}
use Rattle.spool_disk.proofs.incoming.bytes_on.Goals as goal

pub returns : goal.returns
returns c = c.deref.ensures.value ∙ ap (λ v. v.items) c.index-wires-wire.is ∙ sym (at_get c.args.wires.now c.args.wire c.index-wires-wire.result c.requires)
