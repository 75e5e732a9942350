use Rattle.std.proofs.Common.{◌*◌}
use Rattle.ckpt_tables.specs.Shape.{outputs_a_page}
use Rattle.job_select.proofs.FollowLemmas.{OnPage}
use Rattle.job_select.proofs.index.Index.follow_output_page.Given as goal

-- the slots of the page so far are as they are to be
abbrev pub invariant-loop-at : goal.invariant-loop-at
invariant-loop-at l = OnPage l.self.outputs l.fn.self.outputs l.outputs l.self.jobs l.fn.self.jobs (outputs_a_page * l.page) l.at
