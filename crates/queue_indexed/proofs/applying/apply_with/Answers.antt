use Rattle.job_select.proofs.BehindLemmas.{behind_touched}
use Rattle.queue_indexed.proofs.applying.apply_with.Goals as goal

-- the index knows where used slots end
pub give-requires-clause-ends : goal.give-requires-clause-ends
give-requires-clause-ends c = record { jobs = c.jobs_end.ensures; outputs = c.outputs_end.ensures }

-- it lags behind on the pages that the command marked
pub follow-requires-clause-behind : goal.follow-requires-clause-behind
follow-requires-clause-behind c = λ current.
    behind_touched c.args.kept.now.index c.args.marks.now.pages c.give.new.marks.pages c.args.tables.now c.give.new.tables c.requires.spelling c.give.ensures.spelling c.give.ensures.touches (c.requires.kept current)
