use Rattle.std.proofs.Common.{sym, ◌∙◌}
use Rattle.model_queue.proofs.NumberLemmas.{free_from-used}
use Rattle.model_queue.proofs.numbers.next_number.Goals as goal

pub loop-more-preserved : goal.loop-more-preserved
loop-more-preserved c =
    rw c.after-number-in-loop-more.ensures
    (sym (free_from-used c.args.jobs.now c.loop-more.number c.loop-more.more c.loop-more-test.true (cc)) ∙ c.loop-more.invariant)
