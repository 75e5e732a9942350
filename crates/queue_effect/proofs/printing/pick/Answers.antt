use Rattle.queue_effect.proofs.Leaving.{picked}
use Rattle.queue_effect.proofs.printing.pick.Goals as goal

pub returns-clause-plays : goal.returns-clause-plays
returns-clause-plays c = λ Q stands.
    rw (c.put_output.ensures.value, c.busy_at.ensures.value)
    (picked c.args.tables.now Q c.args.by c.in-Some-for_printer.found.at c.in-Some-for_printer.found.item stands (c.in_default.ensures.none Q stands) (c.in-Some-for_printer.ensures.some Q stands))
