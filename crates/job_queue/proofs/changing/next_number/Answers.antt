use Rattle.std.proofs.Common.{refl, sym, ap, ◌∙◌}
use Rattle.job_queue.proofs.JobLemmas.{length-jobs, free_from-used, free_from-free}
use Rattle.job_queue.proofs.changing.next_number.Goals as goal

pub loop-more-init : goal.loop-more-init
loop-more-init c = record {
  small = c.number_after-n.ensures.small;
  same = λ js are. rw (c.number_after-n.ensures.value, c.used_count-more.ensures, length-jobs c.args.jobs.now js are) refl;
}

pub loop-more-preserved : goal.loop-more-preserved
loop-more-preserved c = record {
  small = c.number_after-n-in-loop-more.ensures.small;
  same = λ js are.
      rw c.number_after-n-in-loop-more.ensures.value
      (free_from-used js c.loop-more.n c.loop-more.more c.loop-more-test.true (sym (c.is_used.ensures js are) ∙ c.if-is_used.true) ∙ c.loop-more.invariant.same js are);
}

pub returns-else-is_used-clause-value : goal.returns-else-is_used-clause-value
returns-else-is_used-clause-value c = λ js are.
    ap (λ n. record { 0 = n }) (free_from-free js c.loop-more.n c.loop-more.more (sym (c.is_used.ensures js are) ∙ c.if-is_used.false) ∙ c.loop-more.invariant.same js are)
