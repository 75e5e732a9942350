use Rattle.std.proofs.Common.{sym, ap}
use Rattle.nje_net.specs.Events.{id_of_job, on_line, waits_for}
use Rattle.nje_net.proofs.Firsts.{change_nothing, nothing}
use Rattle.nje_net.proofs.holding.put_first.Goals as goal

pub returns-in_default-clause-jobs : goal.returns-in_default-clause-jobs
returns-in_default-clause-jobs c =
    sym (change_nothing (waits_for c.args.routes.now c.args.line) (on_line c.args.line) c.args.jobs.now (nothing c.place_waiting.result c.in_default.is c.place_waiting.ensures.none))

pub returns-in_default-clause-id : goal.returns-in_default-clause-id
returns-in_default-clause-id c = sym (ap id_of_job (nothing c.place_waiting.result c.in_default.is c.place_waiting.ensures.none))
