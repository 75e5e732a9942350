use Rattle.std.proofs.Common.{sym, ◌∙◌}
use Rattle.page_marks.proofs.MarkLemmas.{touches_then}
use Rattle.queue_effect.proofs.Leaving.{got_over}
use Rattle.queue_effect.proofs.wire.receive.Goals as goal

pub returns-clause-plays : goal.returns-clause-plays
returns-clause-plays c = λ Q stands.
    let stands_entered = c.enter_job.ensures.stands Q stands (c.in-Ok.ensures.some Q stands) in
    let next = rw (c.got.ensures Q stands) at (sym c.refusal_of_number.ensures ∙ c.in_default.is) in
    rw c.put_got.ensures.value
    (got_over c.enter_job.new.tables Q c.args.by c.args.arrival.line c.args.arrival.number c.args.arrival.job c.args.text.now next (c.in-Ok.ensures.allowed Q stands) stands_entered)

pub returns-clause-touches : goal.returns-clause-touches
returns-clause-touches c fit =
    touches_then _ _ _ _ _ _ (c.enter_job.ensures.touches fit) (c.put_got.ensures.touches (c.enter_job.ensures.fit fit))
