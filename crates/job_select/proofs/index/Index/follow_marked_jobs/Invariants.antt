use Rattle.std.proofs.Common.{ℕ, ◌*◌}
use Rattle.ckpt_tables.specs.Shape.{jobs_a_page}
use Rattle.page_marks.specs.Marks.{is_marked, job_page}
use Rattle.job_select.proofs.FollowLemmas.{UpTo}
use Rattle.job_select.proofs.index.Index.follow_marked_jobs.Given as goal

-- the slots of the pages so far are as they are to be
abbrev pub invariant-loop-page : goal.invariant-loop-page
invariant-loop-page l = UpTo l.self.jobs l.jobs l.self.outputs l.fn.self.outputs (λ (at : ℕ). is_marked l.marks.pages (job_page at)) (jobs_a_page * l.page)
