use Rattle.std.proofs.Common.{arith, ap, sym, ◌∙◌, ◌<◌, ◌≡◌, length}
use Rattle.spool_disk.specs.Standing.{bytes_at}
use Rattle.spool_disk.proofs.Slots.{at_get, after_clear}
use Rattle.spool_disk.proofs.record.clear_at.Goals as goal

pub returns-clause-bytes : goal.returns-clause-bytes
returns-clause-bytes c =
    let disk = c.index_mut-disk.result.now in
    let there : c.args.slot < length c.args.disks.now.items = omega (arith, c.requires, c.args.disks.now.ok) in
    let is : disk.items ≡ bytes_at c.args.disks.now.items c.args.slot = ap (λ v. v.items) c.index_mut-disk.ensures.value ∙ sym (at_get c.args.disks.now.items c.args.slot disk there) in
    after_clear c.args.disks.now.items c.args.slot disk c.clear_all.new.disk there is c.clear_all.ensures
