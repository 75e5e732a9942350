use Rattle.std.proofs.Common.{arith, ap, sym, ◌∙◌, length, ◌≡◌}
use Rattle.spool_plant.specs.View.{slice}
use Rattle.spool_disk.specs.Standing.{bytes_at}
use Rattle.spool_disk.proofs.Slots.{at_get}
use Rattle.spool_disk.proofs.record.read_at.Goals as goal

pub copy_part-requires : goal.copy_part-requires
copy_part-requires c =
    let same : bytes_at c.args.disks.now c.args.slot ≡ c.deref.result.now =
    at_get c.args.disks.now c.args.slot c.index-disks-slot.result c.requires.there ∙ sym (ap (λ v. v.items) c.index-disks-slot.is) ∙ sym c.deref.ensures.value in
    omega (arith, c.requires.room, ap length same)

pub returns : goal.returns
returns c =
    let same : bytes_at c.args.disks.now c.args.slot ≡ c.deref.result.now =
    at_get c.args.disks.now c.args.slot c.index-disks-slot.result c.requires.there ∙ sym (ap (λ v. v.items) c.index-disks-slot.is) ∙ sym c.deref.ensures.value in
    c.copy_part.ensures ∙ ap (slice c.args.at (length c.copy_part.new.into)) (sym same)
