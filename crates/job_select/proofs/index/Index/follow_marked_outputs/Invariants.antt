use Rattle.std.proofs.Common.{ℕ, ◌*◌, ◌+◌, ◌/◌}
use Rattle.ckpt_tables.specs.Shape.{outputs_a_page}
use Rattle.page_marks.specs.Marks.{is_marked}
use Rattle.job_select.proofs.FollowLemmas.{UpTo}
use Rattle.job_select.proofs.index.Index.follow_marked_outputs.Given as goal

-- the slots of the pages so far are as they are to be
abbrev pub invariant-loop-page : goal.invariant-loop-page
invariant-loop-page l = UpTo l.self.outputs l.outputs l.self.jobs l.fn.self.jobs (λ (at : ℕ). is_marked l.marks.pages (l.first + at / outputs_a_page)) (outputs_a_page * l.page)
