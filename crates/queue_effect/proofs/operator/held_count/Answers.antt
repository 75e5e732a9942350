use Rattle.std.proofs.Common.{◌+◌, ◌&&◌, ℕ, take, ap, sym, ◌∙◌, arith}
use Rattle.std.specs.Prelude.{count_by, Bool}
use Rattle.mas_types.specs.Ids.{same_number}
use Rattle.lay_bytes.specs.declared.records.OutRec.{OutRec}
use Rattle.lay_bytes.specs.Used.{used}
use Rattle.queue_effect.proofs.Loops.{counted_more}
use Rattle.queue_effect.proofs.operator.held_count.Goals as goal

pub loop-slot-preserved : goal.loop-slot-preserved
loop-slot-preserved c =
    let p : OutRec → Bool = λ (r : OutRec). same_number r.job c.args.job && r.held in
    let i = c.loop-slot.slot-index in
    let few = c.held_in-count.ensures.few in
    let so_far = c.loop-slot.invariant.few in
    record {
      counted = ap (λ (n : ℕ). n + c.held_in-count.result) c.loop-slot.invariant.counted
          ∙ ap (λ (n : ℕ). count_by p (used (take i c.args.outputs.now)) + n) c.held_in-count.ensures.value
          ∙ sym (counted_more p c.args.outputs.now i _ c.loop-slot-test.true);
      few = omega arith;
    }
