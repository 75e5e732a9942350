use Rattle.std.proofs.Common.{◌≡◌, ◌∙◌, List, ℕ, sym, ap, subst}
use Rattle.cmd_report.specs.Named.{IsNamed}
use Rattle.mas_types.specs.declared.queues.Queue.{Queue}
use Rattle.warm_start.specs.Bare.{bare_deck, bare_print}
use Rattle.start_choice.specs.declared.choosing.StartNo.TheVariants as no_start
use Rattle.run_opening.specs.Runs.{has_begun}
use Rattle.mas_tasks.specs.Reports.{IsReport}
use Rattle.mas_tasks.specs.Saying.{Says}
use Rattle.mas_tasks.specs.ScriptRuns.{run_end}
use Rattle.mas_tasks.proofs.ReportLemmas.{none_report, none_elsewhere, said_report, said_caused, said_goes, said_elsewhere, said_not_words, start_not_words}
use Rattle.mas_tasks.proofs.reporting.report_queue.Goals as goal

pub returns-in-Err-clause-report : goal.returns-in-Err-clause-report
returns-in-Err-clause-report g c =
    let P = g.P.Plant in
    let e = c.unbegun.ensures in
    none_report (run_end P.tells P.view c.args.plant c.unbegun.result) (P.view c.found.new.plant) c.in-Err.why (ap P.view e.plant) c.in-Err.ensures.looks (ap has_begun e.unbegun.queue) (e.status ∙ c.status_of_start.ensures) c.in-Err.ensures.none

pub returns-in-Err-clause-words : goal.returns-in-Err-clause-words
returns-in-Err-clause-words g c = rw (c.unbegun.ensures.status, c.status_of_start.ensures) (start_not_words c.in-Err.why)

pub reported-requires : goal.reported-requires
reported-requires g c =
    let f = c.in-Ok.ensures.queue in
    subst IsNamed (sym f.is) (c.law_of_named_queues.ensures f.tables bare_deck bare_print f.usable.0.fit)

pub returns-in_default-clause-report : goal.returns-in_default-clause-report
returns-in_default-clause-report g c =
    let P = g.P.Plant in
    let e = c.unbegun-in_default.ensures in
    none_report (run_end P.tells P.view c.args.plant c.unbegun-in_default.result) (P.view c.found.new.plant) no_start.NoMemory (ap P.view e.plant) c.in-Ok.ensures.looks (ap has_begun e.unbegun.queue) e.status tt

pub returns-in_default-clause-elsewhere : goal.returns-in_default-clause-elsewhere
returns-in_default-clause-elsewhere g c =
    let P = g.P.Plant in
    rw c.unbegun-in_default.ensures.plant (λ told. none_elsewhere P.tells (P.view c.args.plant) (P.view c.found.new.plant) c.in-Ok.ensures.looks told)

pub returns-clause-report : goal.returns-clause-report
returns-clause-report g c =
    let P = g.P.Plant in
    let r = c.said.result in
    let Q = c.in-Ok.queue in
    let v0 = P.view c.args.plant in
    let v1 = P.view c.found.new.plant in
    let says = subst (λ (l : List (List ℕ)). Says P.tells l v1 (P.view r.plant) r.status) c.in-Ok-reported.ensures.lines c.said.ensures.says in
    subst (λ (base : Queue). IsReport (record (run_end P.tells P.view c.args.plant r) { base = base })) (sym (c.said.ensures.base ∙ c.in-Ok-reported.ensures.base))
    (said_report P.tells v0 v1 (P.view r.plant) Q c.in-Ok.ensures.looks c.in-Ok.ensures.queue (r.plant ≡ c.args.plant) r.status r.journal r.since says c.said.ensures.journal (c.said.ensures.since ∙ c.now-since.ensures))

pub returns-clause-words : goal.returns-clause-words
returns-clause-words g c =
    let P = g.P.Plant in
    let r = c.said.result in
    said_not_words P.tells c.in-Ok-reported.lines (P.view c.found.new.plant) (P.view r.plant) r.status c.said.ensures.says

pub returns-clause-cause : goal.returns-clause-cause
returns-clause-cause g c =
    let P = g.P.Plant in
    let r = c.said.result in
    let v1 = P.view c.found.new.plant in
    let says = subst (λ (l : List (List ℕ)). Says P.tells l v1 (P.view r.plant) r.status) c.in-Ok-reported.ensures.lines c.said.ensures.says in
    said_caused P.tells (P.view c.args.plant) v1 (P.view r.plant) c.in-Ok.queue c.in-Ok.ensures.looks r.status says

pub returns-clause-goes : goal.returns-clause-goes
returns-clause-goes g c =
    let P = g.P.Plant in
    let r = c.said.result in
    let v1 = P.view c.found.new.plant in
    let says = subst (λ (l : List (List ℕ)). Says P.tells l v1 (P.view r.plant) r.status) c.in-Ok-reported.ensures.lines c.said.ensures.says in
    said_goes P.tells (P.view c.args.plant) v1 (P.view r.plant) c.in-Ok.queue c.in-Ok.ensures.looks r.status says

pub returns-clause-elsewhere : goal.returns-clause-elsewhere
returns-clause-elsewhere g c told =
    let P = g.P.Plant in
    let r = c.said.result in
    let v1 = P.view c.found.new.plant in
    let says = subst (λ (l : List (List ℕ)). Says P.tells l v1 (P.view r.plant) r.status) c.in-Ok-reported.ensures.lines c.said.ensures.says in
    said_elsewhere P.tells (P.view c.args.plant) v1 (P.view r.plant) c.in-Ok.queue c.in-Ok.ensures.looks r.status says told
