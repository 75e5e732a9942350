use Rattle.std.proofs.Common.{List, subst}
use Rattle.mas_types.specs.declared.ids.Page.{Page}
use Rattle.mas_check.specs.Checks.{IsAnswer}
use Rattle.mas_tasks.proofs.CheckLemmas.{no_pages, no_answer, said_check}
use Rattle.mas_tasks.proofs.inspecting.check_found.Goals as goal

pub returns-in-Err-clause-check : goal.returns-in-Err-clause-check
returns-in-Err-clause-check g c =
    let P = g.P.Plant in
    let e = c.unbegun.ensures in
    rw (e.plant, e.status, c.status_of_start.ensures) (no_pages P.tells (P.view c.args.plant) (P.view c.looked.new.plant) c.in-Err.ensures.looks c.in-Err.why c.in-Err.ensures.none)

pub returns-in_default-clause-check : goal.returns-in_default-clause-check
returns-in_default-clause-check g c =
    let P = g.P.Plant in
    let e = c.unbegun-in_default.ensures in
    rw (e.plant, e.status) (no_answer P.tells (P.view c.args.plant) (P.view c.looked.new.plant) c.in-Ok.ensures.looks (P.view c.check-answer.new.plant) c.check-answer.ensures.reads)

pub returns-clause-check : goal.returns-clause-check
returns-clause-check g c =
    let P = g.P.Plant in
    let v0 = P.view c.args.plant in
    let v1 = P.view c.looked.new.plant in
    let v2 = P.view c.check-answer.new.plant in
    let r = c.say_answer.result in
    let is = subst (λ (pages : List Page). IsAnswer P.tells pages v1 v2 c.check-answer.result) c.as_slice.ensures c.check-answer.ensures.answer in
    said_check P.tells v0 v1 c.in-Ok.ensures.looks v2 c.check-answer.ensures.reads c.in-Ok.pages c.in-Ok.ensures.pages c.check-answer.result is c.in-Ok-lines_of.lines c.in-Ok-lines_of.ensures (P.view r.plant) r.status c.say_answer.ensures.says
