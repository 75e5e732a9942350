use Rattle.std.proofs.Common.{◌≡◌, ◌∙◌, Bool, Some, map, refl, sym, ap, subst, arith}
use Rattle.std.specs.Prelude.{string_bytes}
use Rattle.mas_tasks.specs.ScriptRuns.{run_end, source_of}
use Rattle.mas_top.specs.Raced.{IsRaced}
use Rattle.mas_tasks.specs.Tasks.{race_asked}
use Rattle.mas_top.proofs.RaceLemmas.{asked_race, not_raced, race_memory, race_none, race_same, words_calm}
use Rattle.mas_top.proofs.top.race_top.Goals as goal

-- WORDS THAT AREN'T READ

pub returns-in-Err-clause-race : goal.returns-in-Err-clause-race
returns-in-Err-clause-race g c cold is =
    let P = g.P.Plant in
    let S = g.S.Source in
    let u = c.unbegun.result in
    let e = c.unbegun.ensures in
    let memory = e.status ∙ c.status_of_no.ensures ∙ race_memory (map string_bytes c.args.words.now) cold c.in-Err.why c.in-Err.ensures is in
    not_raced cold (source_of S.tells S.faults S.left c.args.script.now c.args.script.now) (run_end P.tells P.view c.args.plant u) memory e.unbegun e.plant (ap P.view e.plant) (λ told. (0, omega arith, refl))

pub returns-in-Err-clause-calm : goal.returns-in-Err-clause-calm
returns-in-Err-clause-calm g c none =
    let P = g.P.Plant in
    let S = g.S.Source in
    let u = c.unbegun.result in
    let e = c.unbegun.ensures in
    words_calm (map string_bytes c.args.words.now) (source_of S.tells S.faults S.left c.args.script.now c.args.script.now) (c.args.script.now ≡ c.args.script.now) (run_end P.tells P.view c.args.plant u) c.in-Err.why
    (e.status ∙ c.status_of_no.ensures) c.in-Err.ensures refl e.plant (ap P.view e.plant) e.unbegun (λ told. (0, omega arith, refl))

-- A RACE

pub returns-in-Some-clause-race : goal.returns-in-Some-clause-race
returns-in-Some-clause-race g c cold is =
    let P = g.P.Plant in
    let S = g.S.Source in
    let texts = map string_bytes c.args.words.now in
    let r = c.race_script.result in
    let e = c.race_script.ensures in
    let asked = asked_race texts c.in-Ok.read c.in-Ok.ensures in
    let same : c.in-Some.cold ≡ cold = race_same (race_asked texts) c.in-Some.cold cold (asked ∙ sym c.in-Some.ensures) is in
    subst (λ (x : Bool). IsRaced x (source_of S.tells S.faults S.left c.args.script.now c.race_script.new.script) (run_end P.tells P.view c.args.plant r)) same
    (record {
      every = record { refused = e.refused; words = e.words; device = e.device; formatted = e.formatted; unstarted = e.unstarted; faulted = e.source; untouched = e.untouched; idle = e.idle; unprinted = e.unprinted; volumes = e.volumes; loses = e.loses; arms = e.arms; lost = e.lost; room = e.room; roomy = e.roomy; read = e.read; taken = e.taken };
      cause = e.cause;
      begun = e.begun;
      unbegun = e.unbegun;
      unsaid = e.unsaid;
      goes = e.goes;
      race = e.race;
      complete = e.complete;
    })

pub returns-in-Some-clause-calm : goal.returns-in-Some-clause-calm
returns-in-Some-clause-calm g c none =
    let texts = map string_bytes c.args.words.now in
    absurd (race_none (race_asked texts) c.in-Some.cold none (asked_race texts c.in-Ok.read c.in-Ok.ensures ∙ sym c.in-Some.ensures))

-- ALL ELSE

pub returns-clause-race : goal.returns-clause-race
returns-clause-race g c cold is =
    let texts = map string_bytes c.args.words.now in
    absurd (race_none (race_asked texts) cold (asked_race texts c.in-Ok.read c.in-Ok.ensures ∙ sym c.in-None.ensures) is)

pub returns-clause-calm : goal.returns-clause-calm
returns-clause-calm g c none =
    let e = c.calm_top.ensures in
    record {
      words = e.words;
      refused = e.refused;
      untouched = e.unread;
      play = e.play;
      report = e.report;
      format = e.format;
      check = e.check;
      generate = e.generate;
      cause = e.cause;
      begun = e.begun;
      unbegun = e.unbegun;
      unsaid = e.unsaid;
      lost = e.lost;
      goes = e.goes;
      volumes = e.volumes;
    }
