use Rattle.std.proofs.Common.{◌≡◌, ◌<◌, ◌∙◌, [], length, take, drop, refl, arith, append-nil}
use Rattle.std.proofs.lemmas.List.{take_all, drop_all}
use Rattle.model_queue.proofs.Writes.{map_here}
use Rattle.member_core.proofs.Loops.{given_fate, settled_is}
use Rattle.member_core.proofs.batches.settle.Goals as goal

pub loop-batch-preserved : goal.loop-batch-preserved
loop-batch-preserved c =
    let inside : c.loop-batch.batch-index < length c.loop-batch.batches = omega arith in
    map_here c.loop-batch.batches c.loop-batch.batch-index inside (given_fate c.args.fate) _ _ c.batch-item.result c.loop-batch.invariant (rw c.fate_after-batch.ensures refl)

pub returns : goal.returns
returns c =
    let over : drop c.loop-batch.batch-index c.loop-batch.batches ≡ [] = drop_all c.loop-batch.batch-index c.loop-batch.batches (omega arith) in
    let all : take c.loop-batch.batch-index c.loop-batch.batches ≡ c.loop-batch.batches = take_all c.loop-batch.batch-index c.loop-batch.batches (omega arith) in
    let so = rw (over, all, append-nil c.loop-batch.batches) at c.loop-batch.invariant in
    so ∙ settled_is c.args.fate c.args.batches.now
