use Rattle.mas_run.proofs.Names.{◌≡◌, inr, false, List, [], Option, ap, subst, Status, Step, Answers, is_refusal, said_by, steps_of, AreLeftAlone, TakesNone, IsNotStarted, kept_none, not_unplayed, run_result}
use Rattle.mas_run.proofs.AloneLemmas.{not_both}
use Rattle.mas_run.proofs.RefusalLemmas.{answers_said, ends}
use Rattle.mas_run.proofs.top.play_script.Goals as goal

pub returns-in-Ok-clause-refused : goal.returns-in-Ok-clause-refused
returns-in-Ok-clause-refused g c tells =
    answers_said c.args.cold c.args.only (g.S.Source.left c.args.script.now) (g.P.Plant.view c.args.plant) c.in-Ok.script c.play_steps.result.status (c.in-Ok.ensures.said tells) c.play_steps.ensures.refused

pub returns-in-Ok-clause-complete : goal.returns-in-Ok-clause-complete
returns-in-Ok-clause-complete g c tells none still =
    let answer = c.play_steps.result.status in
    let old = g.P.Plant.view c.args.plant in
    let answered = answers_said c.args.cold c.args.only (g.S.Source.left c.args.script.now) old c.in-Ok.script answer (c.in-Ok.ensures.said tells) c.play_steps.ensures.refused in
    let fine : is_refusal c.args.cold answer ≡ false = subst (λ (why : Option Status). Answers c.args.cold why answer) none answered in
    let new = g.P.Plant.view c.play_steps.result.plant in
    let steps = steps_of (said_by c.args.cold c.args.only (g.S.Source.left c.args.script.now)) in
    let same : steps ≡ c.in-Ok.script.steps = ap steps_of (c.in-Ok.ensures.said tells) in
    let e = c.play_steps.ensures in
    ends c.args.cold answer g.P.Plant.tells steps (g.S.Source.faults c.args.script.now) (g.S.Source.faults c.read_all.new.source) old new fine
    (λ is. absurd (e.no_source is)) e.cause still
    (λ lost told alone takes. not_both g.P.Plant.tells told c.in-Ok.script old (run_result answer c.play_steps.result.base c.play_steps.result.journal c.play_steps.result.since new)
    c.in-Ok.ensures.fits.steps (subst (λ (l : List Step). TakesNone old new [] l) same takes) c.args.cold
    (subst (λ (l : List Step). AreLeftAlone l old new) same alone)
    (λ warm none. subst (λ (s : Status). IsNotStarted g.P.Plant.tells s old new) lost (e.unstarted warm none)) (λ cold none. e.loses none (inr cold)) e.run (e.cause.failed1 lost) (e.cause.failed2 lost))

pub returns-in-Ok-clause-device : goal.returns-in-Ok-clause-device
returns-in-Ok-clause-device g c cold dev size is = (c.in-Ok.script, c.in-Ok.ensures.said, c.play_steps.ensures.device cold dev size is)

pub returns-in-Ok-clause-run : goal.returns-in-Ok-clause-run
returns-in-Ok-clause-run g c begun = (c.in-Ok.script, c.in-Ok.ensures.said, c.play_steps.ensures.run begun)

pub returns-in-Err-clause-volumes : goal.returns-in-Err-clause-volumes
returns-in-Err-clause-volumes g c told none = rw c.unbegun.ensures.plant (kept_none (g.P.Plant.view c.args.plant))

pub returns-in-Ok-clause-formats : goal.returns-in-Ok-clause-formats
returns-in-Ok-clause-formats g c only told = c.play_steps.ensures.stepless (c.in-Ok.ensures.only only) told

pub returns-in-Err-clause-formats : goal.returns-in-Err-clause-formats
returns-in-Err-clause-formats g c only told = rw c.unbegun.ensures.plant (kept_none (g.P.Plant.view c.args.plant))

pub returns-in-Ok-clause-idle : goal.returns-in-Ok-clause-idle
returns-in-Ok-clause-idle g c unplayed = absurd (not_unplayed c.play_steps.result.status c.play_steps.ensures.no_text c.play_steps.ensures.no_source unplayed)
