use Rattle.std.proofs.Common.{arith, ◌≡◌, sym, ap, ◌∙◌, length}
use Rattle.spool_disk.specs.Standing.{bytes_at}
use Rattle.spool_disk.proofs.Slots.{each_more, at_get, each_or_past}
use Rattle.spool_disk.proofs.record.copy_all.Goals as goal

pub loop-disk-preserved : goal.loop-disk-preserved
loop-disk-preserved c =
    let here = c.in_ok-copy.ensures ∙ c.deref.ensures.value ∙ ap (λ v. v.items) c.disk-item.is ∙ sym (at_get c.args.disks.now c.loop-disk.disk-index c.disk-item.result c.loop-disk-test.true) in
    let more = each_more c.loop-disk.all.items c.push.new.self.items c.in_ok-copy.field-0 (bytes_at c.args.disks.now) c.loop-disk.disk-index c.loop-disk.invariant.many c.in_ok-push.ensures.items c.loop-disk.invariant.same here in
    record { many = more.0; same = more.1 }

pub returns-clause-same : goal.returns-clause-same
returns-clause-same c slot =
    let many : length c.loop-disk.all.items ≡ length c.args.disks.now = omega (arith, c.loop-disk.invariant.many, c.loop-disk-test.false, c.loop-disk.auto.disk-index-end) in
    each_or_past c.loop-disk.all.items c.args.disks.now many (λ s lt. c.loop-disk.invariant.same s (omega (arith, many, c.loop-disk.invariant.many, lt))) slot
