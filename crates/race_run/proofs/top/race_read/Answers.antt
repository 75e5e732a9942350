use Rattle.std.proofs.Common.{sym, subst}
use Rattle.mas_types.specs.declared.queues.Queue.{Queue}
use Rattle.spool_volumes.specs.Volumes.{AreRoomy}
use Rattle.run_opening.proofs.ProceedLemmas.{proceeds_on}
use Rattle.run_opening.proofs.RoomLemmas.{roomy_on}
use Rattle.run_opening.proofs.WarmLemmas.{play_begins, play_not_text}
use Rattle.race_run.specs.Races.{IsRaceOf}
use Rattle.race_run.proofs.OpenLemmas.{untouched_by}
use Rattle.race_run.proofs.TopLemmas.{race_of_lines}
use Rattle.race_run.proofs.top.race_read.Goals as goal

pub returns-in-Ok-clause-refused : goal.returns-in-Ok-clause-refused
returns-in-Ok-clause-refused g c =
    let e = c.race_asked.ensures in
    let o = c.in-Ok.ensures.open in
    let s = c.race_asked.result.status in
    o.answers s (play_begins s c.in-Ok.run'.complex.base e.kind o.has) (play_not_text s e.kind)

pub returns-in-Ok-clause-cause : goal.returns-in-Ok-clause-cause
returns-in-Ok-clause-cause g c =
    let e = c.race_asked.ensures in
    c.in-Ok.ensures.open.causes c.race_asked.result.status (g.P.Plant.view c.race_asked.result.plant) e.goes e.grow e.cause

pub returns-in-Ok-clause-goes : goal.returns-in-Ok-clause-goes
returns-in-Ok-clause-goes g c =
    let P = g.P.Plant in
    proceeds_on (P.view c.args.plant) (P.view c.in-Ok.run'.complex.plant) (P.view c.race_asked.result.plant) c.in-Ok.ensures.open.goes c.race_asked.ensures.goes

pub returns-in-Ok-clause-roomy : goal.returns-in-Ok-clause-roomy
returns-in-Ok-clause-roomy g c has =
    let P = g.P.Plant in
    let x = c.in-Ok.run'.complex in
    let w = P.view c.race_asked.result.plant in
    subst (λ (q : Queue). AreRoomy w q.config) (sym c.race_asked.ensures.base) (roomy_on (P.view x.plant) w x.base.config c.race_asked.ensures.goes c.in-Ok.ensures.open.roomy)

pub race_asked-requires-clause-untouched : goal.race_asked-requires-clause-untouched
race_asked-requires-clause-untouched g c κs within =
    untouched_by c.args.script.now (g.P.Plant.view c.args.plant) c.in-Ok.run'.complex c.in-Ok.run'.members c.args.cold c.in-Ok.ensures.open

pub returns-in-Ok-clause-race : goal.returns-in-Ok-clause-race
returns-in-Ok-clause-race g c has =
    let P = g.P.Plant in
    let x = c.in-Ok.run'.complex in
    let z = c.race_asked.result in
    let e = c.race_asked.ensures in
    let w = P.view z.plant in
    let script = c.args.script.now in
    let race : IsRaceOf P.tells script.steps z.status x.base x.journal.batches z.journal x.since (P.view x.plant) w = rw (c.as_slice.ensures, e.base, e.since) at e.race in
    rw (e.base, e.since) (race_of_lines c.args.cold script (P.view c.args.plant) x c.in-Ok.run'.members c.in-Ok.ensures.open z.status z.journal w e.goes race)
