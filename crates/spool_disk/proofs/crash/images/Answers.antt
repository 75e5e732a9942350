use Rattle.std.proofs.Common.{refl, sym, ap, ◌∙◌, ℕ, List, Vec}
use Rattle.std.specs.declared.alloc.Global.{Global}
use Rattle.spool_disk.specs.Standing.{bytes_at}
use Rattle.spool_disk.specs.Entries.{deeds_of}
use Rattle.spool_disk.specs.Kept.{fresh}
use Rattle.spool_disk.specs.LeavesAt.{LeavesAt}
use Rattle.spool_disk.proofs.Slots.{all_more, at_get}
use Rattle.spool_disk.proofs.crash.images.Goals as goal

pub loop-slot-preserved : goal.loop-slot-preserved
loop-slot-preserved c =
    let i = c.loop-slot.slot in
    let start = c.as_slice-start.result.now in
    let bytes = c.deref.ensures.value ∙ ap (λ v. v.items) c.index-start-slot.is ∙ sym (at_get start i c.index-start-slot.result c.loop-slot-test.true) ∙ ap (λ (l : List (Vec ℕ Global)). bytes_at l i) c.as_slice-start.ensures.value in
    let here = c.in_ok-image.ensures (fresh c.args.base.now i) bytes refl in
    let more = all_more (λ s image. LeavesAt c.args.choice c.args.base.now s (deeds_of c.args.log.now c.args.arena.now) image) c.loop-slot.all.items c.push.new.self.items c.in_ok-image.image i c.loop-slot.invariant.many c.in_ok-push.ensures.items c.loop-slot.invariant.each here in
    record { many = more.0; each = more.1 }
