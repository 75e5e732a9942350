use Rattle.std.proofs.Common.{◌≡◌, ◌≤◌, length, ap, arith}
use Rattle.lay_bytes.specs.Used.{used}
use Rattle.ckpt_pages.proofs.SlotLists.{few_used}
use Rattle.queue_effect.proofs.ending.are_outputs_full.Goals as goal

pub overflow_add-result : goal.overflow_add-result
overflow_add-result c =
    let few : length (used c.as_slice.result.now) ≤ length c.as_slice.result.now = few_used c.as_slice.result.now in
    let same : length c.as_slice.result.now ≡ length c.args.tables.now.outputs = ap (λ os. length os) c.as_slice.ensures in
    let shape = c.requires.fit.shape.outputs in
    let most = c.requires.fit.shape.config.outputs.1 in
    omega arith
