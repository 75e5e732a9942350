use Rattle.std.proofs.Common.{◌≡◌, ◌∙◌, ℕ, Bool, true, false, Some, map, inr, refl, sym, ap, subst, arith}
use Rattle.std.specs.Prelude.{string_bytes}
use Rattle.run_opening.specs.Refusals.{is_of_script}
use Rattle.mas_run.specs.Refusals.{refusal_before_play}
use Rattle.run_opening.specs.Runs.{has_begun}
use Rattle.mas_tasks.specs.declared.tasks.Task.TheVariants as task
use Rattle.mas_tasks.specs.Generates.{IsGenerated}
use Rattle.mas_tasks.specs.Plays.{IsPlayed}
use Rattle.mas_tasks.specs.ScriptRuns.{run_end, source_of}
use Rattle.mas_tasks.specs.Tasks.{task_asked}
use Rattle.run_opening.proofs.ProceedLemmas.{proceeds_none, proceeds_of}
use Rattle.run_opening.proofs.RefusalLemmas.{free_answer}
use Rattle.run_opening.proofs.VolumeLemmas.{kept_none, kept_on}
use Rattle.mas_tasks.proofs.GenerateLemmas.{not_generated}
use Rattle.mas_tasks.proofs.PlayLemmas.{not_played}
use Rattle.mas_tasks.proofs.CheckLemmas.{check_caused, check_lost, check_not_words, not_checked, volumes_kept}
use Rattle.mas_tasks.proofs.ReportLemmas.{not_reported, report_lost}
use Rattle.mas_tasks.proofs.TaskLemmas.{none_some, play_same, play_not_report, play_not_format, report_not_format, play_not_check, report_not_check, format_not_check, generate_same, generate_not_play, generate_not_report, generate_not_format, generate_not_check, deck_count, none_words, words_or_memory, some_memory, memory_not_source, words_caused, words_lost, words_begins}
use Rattle.mas_tasks.proofs.calm.calm_top.Goals as goal

-- A SCRIPT IS PLAYED

pub returns-in-Play-clause-words : goal.returns-in-Play-clause-words
returns-in-Play-clause-words g c e = absurd (c.play_script.ensures.words e)

pub returns-in-Play-clause-refused : goal.returns-in-Play-clause-refused
returns-in-Play-clause-refused g c none = absurd (none_some (task_asked (map string_bytes c.args.words.now)) (task.Play c.in-Play.cold) none (c.in-Ok.ensures ∙ ap Some c.in-Play.is))

pub returns-in-Play-clause-unread : goal.returns-in-Play-clause-unread
returns-in-Play-clause-unread g c none = absurd (none_some (task_asked (map string_bytes c.args.words.now)) (task.Play c.in-Play.cold) none (c.in-Ok.ensures ∙ ap Some c.in-Play.is))

pub returns-in-Play-clause-play : goal.returns-in-Play-clause-play
returns-in-Play-clause-play g c cold is =
    let P = g.P.Plant in
    let S = g.S.Source in
    let r = c.play_script.result in
    let e = c.play_script.ensures in
    let same : c.in-Play.cold ≡ cold = play_same (task_asked (map string_bytes c.args.words.now)) c.in-Play.cold cold (c.in-Ok.ensures ∙ ap Some c.in-Play.is) is in
    subst (λ (x : Bool). IsPlayed x false (source_of S.tells S.faults S.left c.args.script.now c.play_script.new.script) (run_end P.tells P.view c.args.plant r)) same
    (record {
      every = record { refused = e.refused; words = e.words; device = e.device; formatted = e.formatted; unstarted = e.unstarted; faulted = e.source; untouched = e.untouched; idle = e.idle; unprinted = e.unprinted; volumes = e.volumes; loses = e.loses; arms = e.arms; lost = e.lost; room = e.room; roomy = e.roomy; read = e.read; taken = e.taken };
      formats = e.formats;
      run = e.run;
      complete = e.complete;
    })

pub returns-in-Play-clause-report : goal.returns-in-Play-clause-report
returns-in-Play-clause-report g c is = absurd (play_not_report (task_asked (map string_bytes c.args.words.now)) c.in-Play.cold (c.in-Ok.ensures ∙ ap Some c.in-Play.is) is)

pub returns-in-Play-clause-format : goal.returns-in-Play-clause-format
returns-in-Play-clause-format g c is = absurd (play_not_format (task_asked (map string_bytes c.args.words.now)) c.in-Play.cold (c.in-Ok.ensures ∙ ap Some c.in-Play.is) is)

pub returns-in-Play-clause-check : goal.returns-in-Play-clause-check
returns-in-Play-clause-check g c is = absurd (play_not_check (task_asked (map string_bytes c.args.words.now)) c.in-Play.cold (c.in-Ok.ensures ∙ ap Some c.in-Play.is) is)

pub returns-in-Play-clause-generate : goal.returns-in-Play-clause-generate
returns-in-Play-clause-generate g c decks is = absurd (generate_not_play (task_asked (map string_bytes c.args.words.now)) decks c.in-Play.cold is (c.in-Ok.ensures ∙ ap Some c.in-Play.is))

-- A REPORT

pub returns-in-Report-clause-words : goal.returns-in-Report-clause-words
returns-in-Report-clause-words g c e = absurd (c.report_queue.ensures.words e)

pub returns-in-Report-clause-refused : goal.returns-in-Report-clause-refused
returns-in-Report-clause-refused g c none = absurd (none_some (task_asked (map string_bytes c.args.words.now)) task.Report none (c.in-Ok.ensures ∙ ap Some c.in-Report.is))

pub returns-in-Report-clause-unread : goal.returns-in-Report-clause-unread
returns-in-Report-clause-unread g c none = absurd (none_some (task_asked (map string_bytes c.args.words.now)) task.Report none (c.in-Ok.ensures ∙ ap Some c.in-Report.is))

pub returns-in-Report-clause-play : goal.returns-in-Report-clause-play
returns-in-Report-clause-play g c cold is = absurd (play_not_report (task_asked (map string_bytes c.args.words.now)) cold is (c.in-Ok.ensures ∙ ap Some c.in-Report.is))

pub returns-in-Report-clause-report : goal.returns-in-Report-clause-report
returns-in-Report-clause-report g c is = (refl, c.report_queue.ensures.report)

pub returns-in-Report-clause-format : goal.returns-in-Report-clause-format
returns-in-Report-clause-format g c is = absurd (report_not_format (task_asked (map string_bytes c.args.words.now)) (c.in-Ok.ensures ∙ ap Some c.in-Report.is) is)

pub returns-in-Report-clause-check : goal.returns-in-Report-clause-check
returns-in-Report-clause-check g c is = absurd (report_not_check (task_asked (map string_bytes c.args.words.now)) (c.in-Ok.ensures ∙ ap Some c.in-Report.is) is)

pub returns-in-Report-clause-generate : goal.returns-in-Report-clause-generate
returns-in-Report-clause-generate g c decks is = absurd (generate_not_report (task_asked (map string_bytes c.args.words.now)) decks is (c.in-Ok.ensures ∙ ap Some c.in-Report.is))

-- A FORMAT

pub returns-in-Format-clause-words : goal.returns-in-Format-clause-words
returns-in-Format-clause-words g c e = absurd (c.play_script-in-Format.ensures.words e)

pub returns-in-Format-clause-refused : goal.returns-in-Format-clause-refused
returns-in-Format-clause-refused g c none = absurd (none_some (task_asked (map string_bytes c.args.words.now)) task.Format none (c.in-Ok.ensures ∙ ap Some c.in-Format.is))

pub returns-in-Format-clause-unread : goal.returns-in-Format-clause-unread
returns-in-Format-clause-unread g c none = absurd (none_some (task_asked (map string_bytes c.args.words.now)) task.Format none (c.in-Ok.ensures ∙ ap Some c.in-Format.is))

pub returns-in-Format-clause-play : goal.returns-in-Format-clause-play
returns-in-Format-clause-play g c cold is = absurd (play_not_format (task_asked (map string_bytes c.args.words.now)) cold is (c.in-Ok.ensures ∙ ap Some c.in-Format.is))

pub returns-in-Format-clause-report : goal.returns-in-Format-clause-report
returns-in-Format-clause-report g c is = absurd (report_not_format (task_asked (map string_bytes c.args.words.now)) is (c.in-Ok.ensures ∙ ap Some c.in-Format.is))

pub returns-in-Format-clause-format : goal.returns-in-Format-clause-format
returns-in-Format-clause-format g c is =
    let e = c.play_script-in-Format.ensures in
    record {
      every = record { refused = e.refused; words = e.words; device = e.device; formatted = e.formatted; unstarted = e.unstarted; faulted = e.source; untouched = e.untouched; idle = e.idle; unprinted = e.unprinted; volumes = e.volumes; loses = e.loses; arms = e.arms; lost = e.lost; room = e.room; roomy = e.roomy; read = e.read; taken = e.taken };
      formats = e.formats;
      run = e.run;
      complete = e.complete;
    }

pub returns-in-Format-clause-check : goal.returns-in-Format-clause-check
returns-in-Format-clause-check g c is = absurd (format_not_check (task_asked (map string_bytes c.args.words.now)) (c.in-Ok.ensures ∙ ap Some c.in-Format.is) is)

pub returns-in-Format-clause-generate : goal.returns-in-Format-clause-generate
returns-in-Format-clause-generate g c decks is = absurd (generate_not_format (task_asked (map string_bytes c.args.words.now)) decks is (c.in-Ok.ensures ∙ ap Some c.in-Format.is))

-- A CHECK

pub returns-in-Check-clause-words : goal.returns-in-Check-clause-words
returns-in-Check-clause-words g c e =
    let P = g.P.Plant in
    let r = c.check_found.result in
    absurd (check_not_words P.tells r.status (P.view c.args.plant) (P.view r.plant) c.check_found.ensures.check e)

pub returns-in-Check-clause-refused : goal.returns-in-Check-clause-refused
returns-in-Check-clause-refused g c none = absurd (none_some (task_asked (map string_bytes c.args.words.now)) task.Check none (c.in-Ok.ensures ∙ ap Some c.in-Check.is))

pub returns-in-Check-clause-unread : goal.returns-in-Check-clause-unread
returns-in-Check-clause-unread g c none = absurd (none_some (task_asked (map string_bytes c.args.words.now)) task.Check none (c.in-Ok.ensures ∙ ap Some c.in-Check.is))

pub returns-in-Check-clause-play : goal.returns-in-Check-clause-play
returns-in-Check-clause-play g c cold is = absurd (play_not_check (task_asked (map string_bytes c.args.words.now)) cold is (c.in-Ok.ensures ∙ ap Some c.in-Check.is))

pub returns-in-Check-clause-report : goal.returns-in-Check-clause-report
returns-in-Check-clause-report g c is = absurd (report_not_check (task_asked (map string_bytes c.args.words.now)) is (c.in-Ok.ensures ∙ ap Some c.in-Check.is))

pub returns-in-Check-clause-format : goal.returns-in-Check-clause-format
returns-in-Check-clause-format g c is = absurd (format_not_check (task_asked (map string_bytes c.args.words.now)) is (c.in-Ok.ensures ∙ ap Some c.in-Check.is))

pub returns-in-Check-clause-check : goal.returns-in-Check-clause-check
returns-in-Check-clause-check g c is = (refl, ap has_begun c.check_found.ensures.unbegun.queue, c.check_found.ensures.check)

pub returns-in-Check-clause-generate : goal.returns-in-Check-clause-generate
returns-in-Check-clause-generate g c decks is = absurd (generate_not_check (task_asked (map string_bytes c.args.words.now)) decks is (c.in-Ok.ensures ∙ ap Some c.in-Check.is))

pub returns-in-Check-clause-cause : goal.returns-in-Check-clause-cause
returns-in-Check-clause-cause g c =
    let P = g.P.Plant in
    let r = c.check_found.result in
    check_caused P.tells r.status (P.view c.args.plant) (P.view r.plant) c.check_found.ensures.check

pub returns-in-Check-clause-begun : goal.returns-in-Check-clause-begun
returns-in-Check-clause-begun g c other = absurd (other (c.in-Ok.ensures ∙ ap Some c.in-Check.is))

pub returns-in-Check-clause-unsaid : goal.returns-in-Check-clause-unsaid
returns-in-Check-clause-unsaid g c told other = absurd (other (c.in-Ok.ensures ∙ ap Some c.in-Check.is))

pub returns-in-Check-clause-goes : goal.returns-in-Check-clause-goes
returns-in-Check-clause-goes g c =
    let P = g.P.Plant in
    proceeds_of (P.view c.args.plant) (P.view c.check_found.result.plant) c.check_found.ensures.check.devices.goes

pub returns-in-Report-clause-goes : goal.returns-in-Report-clause-goes
returns-in-Report-clause-goes g c =
    let P = g.P.Plant in
    proceeds_of (P.view c.args.plant) (P.view c.report_queue.result.plant) c.report_queue.ensures.goes

pub returns-in-Err-clause-goes : goal.returns-in-Err-clause-goes
returns-in-Err-clause-goes g c = rw c.unbegun.ensures.plant (proceeds_none (g.P.Plant.view c.args.plant))

pub returns-in-Check-clause-volumes : goal.returns-in-Check-clause-volumes
returns-in-Check-clause-volumes g c told none =
    let P = g.P.Plant in
    let r = c.check_found.result in
    volumes_kept P.tells (P.view c.args.plant) (P.view r.plant) c.check_found.ensures.check.devices told

-- A GENERATED SCRIPT

pub play_generated-requires : goal.play_generated-requires
play_generated-requires g c = deck_count (map string_bytes c.args.words.now) c.in-Generate.decks (c.in-Ok.ensures ∙ ap Some c.in-Generate.is)

pub returns-in-Generate-clause-words : goal.returns-in-Generate-clause-words
returns-in-Generate-clause-words g c e = absurd (c.play_generated.ensures.words e)

pub returns-in-Generate-clause-refused : goal.returns-in-Generate-clause-refused
returns-in-Generate-clause-refused g c none = absurd (none_some (task_asked (map string_bytes c.args.words.now)) (task.Generate c.in-Generate.decks) none (c.in-Ok.ensures ∙ ap Some c.in-Generate.is))

pub returns-in-Generate-clause-unread : goal.returns-in-Generate-clause-unread
returns-in-Generate-clause-unread g c none = absurd (none_some (task_asked (map string_bytes c.args.words.now)) (task.Generate c.in-Generate.decks) none (c.in-Ok.ensures ∙ ap Some c.in-Generate.is))

pub returns-in-Generate-clause-play : goal.returns-in-Generate-clause-play
returns-in-Generate-clause-play g c cold is = absurd (generate_not_play (task_asked (map string_bytes c.args.words.now)) c.in-Generate.decks cold (c.in-Ok.ensures ∙ ap Some c.in-Generate.is) is)

pub returns-in-Generate-clause-report : goal.returns-in-Generate-clause-report
returns-in-Generate-clause-report g c is = absurd (generate_not_report (task_asked (map string_bytes c.args.words.now)) c.in-Generate.decks (c.in-Ok.ensures ∙ ap Some c.in-Generate.is) is)

pub returns-in-Generate-clause-format : goal.returns-in-Generate-clause-format
returns-in-Generate-clause-format g c is = absurd (generate_not_format (task_asked (map string_bytes c.args.words.now)) c.in-Generate.decks (c.in-Ok.ensures ∙ ap Some c.in-Generate.is) is)

pub returns-in-Generate-clause-check : goal.returns-in-Generate-clause-check
returns-in-Generate-clause-check g c is = absurd (generate_not_check (task_asked (map string_bytes c.args.words.now)) c.in-Generate.decks (c.in-Ok.ensures ∙ ap Some c.in-Generate.is) is)

pub returns-in-Generate-clause-generate : goal.returns-in-Generate-clause-generate
returns-in-Generate-clause-generate g c decks is =
    let P = g.P.Plant in
    let r = c.play_generated.result in
    let same : c.in-Generate.decks ≡ decks = generate_same (task_asked (map string_bytes c.args.words.now)) c.in-Generate.decks decks (c.in-Ok.ensures ∙ ap Some c.in-Generate.is) is in
    (refl, subst (λ (n : ℕ). IsGenerated n (run_end P.tells P.view c.args.plant r)) same c.play_generated.ensures.generated)

-- WORDS THAT AREN'T READ

pub returns-in-Err-clause-words : goal.returns-in-Err-clause-words
returns-in-Err-clause-words g c e = none_words (task_asked (map string_bytes c.args.words.now)) c.in-Err.why c.in-Err.ensures (sym (c.unbegun.ensures.status ∙ c.status_of_no.ensures) ∙ e)

pub returns-in-Err-clause-refused : goal.returns-in-Err-clause-refused
returns-in-Err-clause-refused g c none = rw (c.unbegun.ensures.status, c.status_of_no.ensures) (words_or_memory c.in-Err.why)

pub returns-in-Err-clause-unread : goal.returns-in-Err-clause-unread
returns-in-Err-clause-unread g c none = (refl, c.unbegun.ensures.plant, ap has_begun c.unbegun.ensures.unbegun.queue)

pub returns-in-Err-clause-play : goal.returns-in-Err-clause-play
returns-in-Err-clause-play g c cold is =
    let P = g.P.Plant in
    let S = g.S.Source in
    let u = c.unbegun.result in
    let e = c.unbegun.ensures in
    let memory = e.status ∙ c.status_of_no.ensures ∙ some_memory (task_asked (map string_bytes c.args.words.now)) (task.Play cold) c.in-Err.why c.in-Err.ensures is in
    not_played cold false (source_of S.tells S.faults S.left c.args.script.now c.args.script.now) (run_end P.tells P.view c.args.plant u) e.unbegun.queue e.plant (ap P.view e.plant) (ap is_of_script memory)
    (λ told. free_answer cold (refusal_before_play cold false (S.left c.args.script.now) (P.view c.args.plant)) u.status (inr memory)) (λ f. absurd (memory_not_source u.status memory f)) (λ told. (0, omega arith, refl))

pub returns-in-Err-clause-report : goal.returns-in-Err-clause-report
returns-in-Err-clause-report g c is =
    let P = g.P.Plant in
    let u = c.unbegun.result in
    let e = c.unbegun.ensures in
    let memory = e.status ∙ c.status_of_no.ensures ∙ some_memory (task_asked (map string_bytes c.args.words.now)) task.Report c.in-Err.why c.in-Err.ensures is in
    (refl, not_reported (run_end P.tells P.view c.args.plant u) memory e.unbegun.queue (ap P.view e.plant))

pub returns-in-Err-clause-format : goal.returns-in-Err-clause-format
returns-in-Err-clause-format g c is =
    let P = g.P.Plant in
    let S = g.S.Source in
    let u = c.unbegun.result in
    let e = c.unbegun.ensures in
    let memory = e.status ∙ c.status_of_no.ensures ∙ some_memory (task_asked (map string_bytes c.args.words.now)) task.Format c.in-Err.why c.in-Err.ensures is in
    not_played true true (source_of S.tells S.faults S.left c.args.script.now c.args.script.now) (run_end P.tells P.view c.args.plant u) e.unbegun.queue e.plant (ap P.view e.plant) (ap is_of_script memory)
    (λ told. free_answer true (refusal_before_play true true (S.left c.args.script.now) (P.view c.args.plant)) u.status (inr memory)) (λ f. absurd (memory_not_source u.status memory f)) (λ told. (0, omega arith, refl))

pub returns-in-Err-clause-check : goal.returns-in-Err-clause-check
returns-in-Err-clause-check g c is =
    let P = g.P.Plant in
    let e = c.unbegun.ensures in
    let memory = e.status ∙ c.status_of_no.ensures ∙ some_memory (task_asked (map string_bytes c.args.words.now)) task.Check c.in-Err.why c.in-Err.ensures is in
    (refl, ap has_begun e.unbegun.queue, rw (memory, e.plant) (not_checked P.tells (P.view c.args.plant)))

pub returns-in-Err-clause-generate : goal.returns-in-Err-clause-generate
returns-in-Err-clause-generate g c decks is =
    let P = g.P.Plant in
    let u = c.unbegun.result in
    let e = c.unbegun.ensures in
    let memory = e.status ∙ c.status_of_no.ensures ∙ some_memory (task_asked (map string_bytes c.args.words.now)) (task.Generate decks) c.in-Err.why c.in-Err.ensures is in
    (refl, not_generated decks (run_end P.tells P.view c.args.plant u) memory e.unbegun.queue e.plant (ap P.view e.plant))

pub returns-in-Err-clause-cause : goal.returns-in-Err-clause-cause
returns-in-Err-clause-cause g c = rw (c.unbegun.ensures.status, c.status_of_no.ensures) (words_caused c.in-Err.why (g.P.Plant.view c.args.plant) (g.P.Plant.view c.unbegun.result.plant))

pub returns-in-Err-clause-lost : goal.returns-in-Err-clause-lost
returns-in-Err-clause-lost g c none = rw (c.unbegun.ensures.status, c.status_of_no.ensures, c.unbegun.ensures.plant) (words_lost c.in-Err.why (g.P.Plant.view c.args.plant))

pub returns-in-Check-clause-lost : goal.returns-in-Check-clause-lost
returns-in-Check-clause-lost g c none =
    let P = g.P.Plant in
    let r = c.check_found.result in
    check_lost P.tells r.status (P.view c.args.plant) (P.view r.plant) c.check_found.ensures.check

pub returns-in-Report-clause-lost : goal.returns-in-Report-clause-lost
returns-in-Report-clause-lost g c none =
    let P = g.P.Plant in
    let r = c.report_queue.result in
    report_lost (run_end P.tells P.view c.args.plant r) c.report_queue.ensures.report c.report_queue.ensures.goes none

pub returns-in-Err-clause-begun : goal.returns-in-Err-clause-begun
returns-in-Err-clause-begun g c other = rw (c.unbegun.ensures.status, c.status_of_no.ensures) (words_begins c.in-Err.why c.unbegun.result.base c.unbegun.ensures.unbegun.queue)

-- THE SPOOL VOLUMES

pub returns-in-Report-clause-volumes : goal.returns-in-Report-clause-volumes
returns-in-Report-clause-volumes g c told none = kept_on (g.P.Plant.view c.args.plant) (g.P.Plant.view c.report_queue.result.plant) (c.report_queue.ensures.elsewhere told)

pub returns-in-Err-clause-volumes : goal.returns-in-Err-clause-volumes
returns-in-Err-clause-volumes g c told none = rw c.unbegun.ensures.plant (kept_none (g.P.Plant.view c.args.plant))
