use Rattle.page_marks.proofs.MarkLemmas.{touches_then}
use Rattle.queue_effect.proofs.Changing.{members_reset}
use Rattle.queue_effect.proofs.members.reset_members.Goals as goal

pub returns-clause-stands : goal.returns-clause-stands
returns-clause-stands c = λ Q stands. rw (c.reset_owners.ensures.value, c.reset_outputs.ensures.value, c.reset_jobs.ensures.value) (members_reset c.args.tables.now Q c.args.who stands)

pub returns-clause-touches : goal.returns-clause-touches
returns-clause-touches c fit =
    let after_jobs = c.reset_jobs.ensures.fit fit in
    let after_outputs = c.reset_outputs.ensures.fit after_jobs in
    touches_then _ _ _ _ _ _ (c.reset_jobs.ensures.touches fit) (touches_then _ _ _ _ _ _ (c.reset_outputs.ensures.touches after_jobs) (c.reset_owners.ensures.touches after_outputs))
