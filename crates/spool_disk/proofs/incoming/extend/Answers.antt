use Rattle.std.proofs.Common.{◌∙◌, ap, sym}
use Rattle.spool_disk.proofs.Slots.{at_get, extended, not_extended}
use Rattle.spool_disk.proofs.incoming.extend.Goals as goal

pub returns-clause-added : goal.returns-clause-added
returns-clause-added c =
    let wires = c.args.wires.now.items in
    extended wires c.args.wire c.args.bytes.now c.index_mut.result.now c.extend_from_slice.new.self c.requires
    (ap (λ v. v.items) c.index_mut.ensures.value ∙ sym (at_get wires c.args.wire c.index_mut.result.now c.requires)) c.extend_from_slice.result c.extend_from_slice.ensures.items

pub returns-clause-none : goal.returns-clause-none
returns-clause-none c =
    let wires = c.args.wires.now.items in
    not_extended wires c.args.wire c.args.bytes.now c.index_mut.result.now c.extend_from_slice.new.self c.requires
    (ap (λ v. v.items) c.index_mut.ensures.value ∙ sym (at_get wires c.args.wire c.index_mut.result.now c.requires)) c.extend_from_slice.result c.extend_from_slice.ensures.items
