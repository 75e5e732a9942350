use Rattle.std.proofs.Common.{arith, ◌<◌, ◌≡◌, ap, sym, ◌∙◌, length}
use Rattle.spool_disk.specs.Standing.{bytes_at}
use Rattle.spool_disk.proofs.Slots.{at_get, after_put}
use Rattle.spool_disk.proofs.record.put_at.Goals as goal

pub put_over-requires : goal.put_over-requires
put_over-requires c =
    let disk = c.index_mut-disk.result.now in
    let there : c.args.slot < length c.args.disks.now.items = omega (arith, c.requires.there, c.args.disks.now.ok) in
    let is : disk.items ≡ bytes_at c.args.disks.now.items c.args.slot = ap (λ v. v.items) c.index_mut-disk.ensures.value ∙ sym (at_get c.args.disks.now.items c.args.slot disk there) in
    omega (arith, c.requires.room, ap length is)

pub returns-clause-bytes : goal.returns-clause-bytes
returns-clause-bytes c =
    let disk = c.index_mut-disk.result.now in
    let there : c.args.slot < length c.args.disks.now.items = omega (arith, c.requires.there, c.args.disks.now.ok) in
    let is : disk.items ≡ bytes_at c.args.disks.now.items c.args.slot = ap (λ v. v.items) c.index_mut-disk.ensures.value ∙ sym (at_get c.args.disks.now.items c.args.slot disk there) in
    after_put c.args.disks.now.items c.args.slot c.args.at c.args.bytes.now disk c.put_over.new.disk there is c.put_over.ensures
