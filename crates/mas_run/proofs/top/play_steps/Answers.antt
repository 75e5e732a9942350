use Rattle.mas_run.proofs.Names.{by_test, rules, ◌∙◌, ◌≤◌, sym, ap, subst, Ckpt1, Ckpt2, Queue, form_needs, page_count, AreRoomy, IsPlay, has_begun, proceeds_on, roomy_on, run_result}
use Rattle.mas_run.proofs.RunLemmas.{run_of_lines, run_of_none, stepless_run}
use Rattle.run_opening.proofs.WarmLemmas.{no, play_begins, play_not_source, play_not_text}
use Rattle.mas_run.proofs.top.play_steps.Goals as goal

-- A RUN THAT IS OPEN

pub play_asked-requires-clause-open : goal.play_asked-requires-clause-open
play_asked-requires-clause-open g c = assumption (c.in-Ok.ensures.open)

pub returns-in-Ok : goal.returns-in-Ok
returns-in-Ok g c =
    let e = c.play_asked.ensures in
    let o = c.in-Ok.ensures.open in
    let P = g.P.Plant in
    let old = P.view c.args.plant in
    let x = c.in-Ok.run'.complex in
    let z = c.play_asked.result in
    let w = P.view z.plant in
    let script = c.args.script in
    let has = ap has_begun e.base ∙ o.has in
    let end = run_result z.status x.base z.journal x.since w in
    let play : IsPlay P.tells script.steps x.journal.batches (P.view x.plant) end = rw (c.as_slice.ensures, e.base, e.since) at e.play in
    let ran = run_of_lines c.args.cold script old x c.in-Ok.run'.members o z.status z.journal w e.goes play in
    record {
      refused = o.answers z.status (play_begins z.status x.base e.kind o.has) (play_not_text z.status e.kind);
      device = search rules;
      no_source = λ is. play_not_source z.status e.kind is;
      no_text = play_not_text z.status e.kind;
      formatted = search rules;
      unstarted = λ warm none. absurd (no z.base has none);
      cause = o.causes z.status w e.goes e.grow e.cause;
      begun = play_begins z.status z.base e.kind has;
      unbegun = λ none. absurd (no z.base has none);
      untouched = λ none. absurd (no z.base has none);
      unsaid = λ told none. absurd (no z.base has none);
      unprinted = λ told none. absurd (no z.base has none);
      goes = proceeds_on old (P.view x.plant) w o.goes e.goes;
      arms = λ none. absurd (no z.base has none);
      loses = λ none. absurd (no z.base has none);
      lost = λ none. absurd (no z.base has none);
      volumes = λ told none. absurd (no z.base has none);
      room = λ has.
          subst (λ (q : Queue). (form_needs (page_count q.config) ≤ old.size Ckpt1) × (form_needs (page_count q.config) ≤ old.size Ckpt2)) (sym e.base) o.room;
      roomy = λ has. subst (λ (q : Queue). AreRoomy w q.config) (sym e.base) (roomy_on (P.view x.plant) w x.base.config e.goes o.roomy);
      run = λ has. rw (e.base, e.since) ran;
      stepless = λ none told. stepless_run c.args.cold P.tells script old end none ran told;
    }

-- ONE THAT ENDED BEFORE ITS LINES

pub returns-clause-run : goal.returns-clause-run
returns-clause-run g c has =
    let P = g.P.Plant in
    let z = c.in-Err.ended in
    run_of_none c.args.cold P.tells c.args.script z.status z.base z.journal z.since (P.view c.args.plant) (P.view z.plant) (c.in-Err.ensures.ended.none has)

pub returns-clause-stepless : goal.returns-clause-stepless
returns-clause-stepless g c none told =
    let P = g.P.Plant in
    let z = c.in-Err.ended in
    let e = c.in-Err.ensures.ended in
    let old = P.view c.args.plant in
    let end = run_result z.status z.base z.journal z.since (P.view z.plant) in
    by_test (has_begun z.base) (λ has. stepless_run c.args.cold P.tells c.args.script old end none (run_of_none c.args.cold P.tells c.args.script z.status z.base z.journal z.since old end.view (e.none has)) told) (e.volumes told)
