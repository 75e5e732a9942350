use Rattle.std.proofs.Common.{◌≡◌, ◌∙◌, ap, ℕ, List, replicate}
use Rattle.spool_disk.specs.Sizes.{size_in}
use Rattle.spool_disk.proofs.Slots.{all_more}
use Rattle.spool_disk.proofs.base.blank_start.Goals as goal

pub loop-slot-preserved : goal.loop-slot-preserved
loop-slot-preserved c =
    let here = c.in_ok-bytes.ensures ∙ ap (λ (n : ℕ). replicate n 0) c.size_number.ensures.size in
    let more = all_more (λ (s : ℕ) (l : List ℕ). l ≡ replicate (size_in c.args.sizes.now s) 0) c.loop-slot.all.items c.push.new.self.items c.in_ok-bytes.bytes c.loop-slot.slot c.loop-slot.invariant.many c.in_ok-push.ensures.items c.loop-slot.invariant.each here in
    record { many = more.0; each = more.1 }
