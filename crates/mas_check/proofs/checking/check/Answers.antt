use Rattle.mas_check.proofs.WorldLemmas.{reads_none}
use Rattle.mas_check.proofs.CheckLemmas.{answer_or_none, no_pages}
use Rattle.mas_check.proofs.checking.check.Goals as goal

pub returns-in-Ok-clause-answer : goal.returns-in-Ok-clause-answer
returns-in-Ok-clause-answer g c =
    let P = g.P.Plant in
    answer_or_none P.tells c.args.pages.now (P.view c.args.plant.now) (P.view c.check_tables.new.plant) c.in-Ok.tables c.check_tables.result c.in-Ok.ensures.found c.check_tables.ensures.answer

pub returns-in-Err-clause-reads : goal.returns-in-Err-clause-reads
returns-in-Err-clause-reads g c = reads_none g.P.Plant.tells (g.P.Plant.view c.args.plant.now)

pub returns-in-Err-clause-answer : goal.returns-in-Err-clause-answer
returns-in-Err-clause-answer g c =
    let P = g.P.Plant in
    let v = P.view c.args.plant.now in
    rw c.page_answer.ensures (no_pages P.tells c.args.pages.now v v c.in-Err.why c.in-Err.ensures.bad)
