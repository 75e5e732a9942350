use Rattle.std.proofs.Common.{◌≡◌, ◌<◌, true, false, length, get_or, drop, arith}
use Rattle.mas_types.specs.declared.queues.Owner.TheVariants as owner
use Rattle.mas_types.specs.Owners.{is_members, handed_out}
use Rattle.model_queue.proofs.Handing.{hand_mine, hand_other, tail-drop}
use Rattle.model_queue.proofs.groups.hand_out_in.Goals as goal
use Rattle.model_queue.proofs.groups.hand_out_in.Goals.{then-picks, else-picks}

pub loop-owner-preserved : goal.loop-owner-preserved
loop-owner-preserved c =
    let gs = c.loop-owner.owners in
    let i = c.loop-owner.owner-index in
    let new = drop c.loop-owner.next c.args.new.now in
    let all = handed_out c.args.by c.args.new.now c.args.owners.now in
    let inside : i < length gs = omega arith in
    elim c.if-picks.branch [
      | then-picks w ↦
          let mine : is_members c.args.by (get_or gs i owner.Free) ≡ true = cc in
          let stepped = hand_mine c.args.by new all gs i inside c.loop-owner.invariant w.owner_at.result mine w.owner_at.ensures in
          rw (w.owners-is, w.next-is, w.next_after-next.ensures, ← tail-drop c.args.new.now c.loop-owner.next) stepped
      | else-picks w ↦
          let other : is_members c.args.by (get_or gs i owner.Free) ≡ false = cc in
          rw (w.owners-is, w.next-is) (hand_other c.args.by new all gs i inside c.loop-owner.invariant other)
    ]
