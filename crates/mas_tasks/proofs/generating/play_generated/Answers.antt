use Rattle.std.proofs.Common.{◌≡◌, ◌∙◌, ℕ, Bool, true, false, List, refl, sym, ap, subst}
use Rattle.mas_types.specs.declared.answers.Status.{Status}
use Rattle.mas_types.specs.declared.answers.Status.TheVariants as status
use Rattle.gen_work.specs.Summaries.{summary_line, summary_of}
use Rattle.mas_run.specs.Refusals.{IsSaid}
use Rattle.mas_run.specs.Runs.{run_result}
use Rattle.run_opening.specs.Runs.{Begins, has_begun}
use Rattle.run_opening.specs.Statuses.{is_unplayed}
use Rattle.run_opening.proofs.ProceedLemmas.{proceeds_none, proceeds_on}
use Rattle.run_opening.proofs.VolumeLemmas.{kept_none}
use Rattle.mas_tasks.specs.Generates.{SumsUp, script_source, text_source}
use Rattle.mas_tasks.specs.Plays.{IsPlayed}
use Rattle.mas_tasks.specs.ScriptRuns.{RunEnd, run_end}
use Rattle.mas_tasks.specs.ScriptTexts.{left_of}
use Rattle.mas_tasks.proofs.CompleteLemmas.{ends_out, generated_renews, refusal_generated, still_generated}
use Rattle.mas_tasks.proofs.GenerateLemmas.{as_given, ends_begins, ends_caused, ends_of, ends_proceeds, ends_words, not_generated, not_summed, played_same, run_safe, whole_safe}
use Rattle.mas_tasks.proofs.PlayLemmas.{script_caused, script_lost}
use Rattle.mas_tasks.proofs.generating.play_generated.Goals as goal

no : (b : Bool) → b ≡ true → b ≡ false → ⊥
no b p q = absurd (cc)

-- THERE IS NO MEMORY FOR THE SCRIPT

pub returns-in-Err-clause-generated : goal.returns-in-Err-clause-generated
returns-in-Err-clause-generated g c =
    let P = g.P.Plant in
    let u = c.unbegun.result in
    let e = c.unbegun.ensures in
    not_generated c.args.decks (run_end P.tells P.view c.args.plant u) e.status e.unbegun.queue e.plant (ap P.view e.plant)

pub returns-in-Err-clause-cause : goal.returns-in-Err-clause-cause
returns-in-Err-clause-cause g c =
    let P = g.P.Plant in
    rw (c.unbegun.ensures.status, c.unbegun.ensures.plant) (script_caused status.NoMemory (P.view c.args.plant) (P.view c.args.plant) refl)

pub returns-in-Err-clause-lost : goal.returns-in-Err-clause-lost
returns-in-Err-clause-lost g c none =
    let P = g.P.Plant in
    rw (c.unbegun.ensures.status, c.unbegun.ensures.plant) (script_lost status.NoMemory (P.view c.args.plant) (P.view c.args.plant) refl refl)

pub returns-in-Err-clause-goes : goal.returns-in-Err-clause-goes
returns-in-Err-clause-goes g c = rw c.unbegun.ensures.plant (proceeds_none (g.P.Plant.view c.args.plant))

pub returns-in-Err-clause-volumes : goal.returns-in-Err-clause-volumes
returns-in-Err-clause-volumes g c told none = rw c.unbegun.ensures.plant (kept_none (g.P.Plant.view c.args.plant))

-- ALL LINES WERE PLAYED

pub returns-in-Done-clause-generated : goal.returns-in-Done-clause-generated
returns-in-Done-clause-generated g c =
    let P = g.P.Plant in
    let old = P.view c.args.plant in
    let r = c.play_script-status.result in
    let e = c.play_script-status.ensures in
    let text = c.in-Ok.text in
    let rest = left_of c.play_script-status.new.script in
    let mid = P.view r.plant in
    let ended : RunEnd = run_end P.tells P.view c.args.plant r in
    let all : IsPlayed true false (text_source text rest) ended = record {
      every = record { refused = e.refused; words = e.words; device = e.device; formatted = e.formatted; unstarted = e.unstarted; faulted = e.source; untouched = e.untouched; idle = e.idle; unprinted = e.unprinted; volumes = e.volumes; loses = e.loses; arms = e.arms; lost = e.lost; room = e.room; roomy = e.roomy; read = e.read; taken = e.taken };
      formats = e.formats;
      run = e.run;
      complete = e.complete;
    } in
    let played : IsPlayed true false (script_source c.args.decks rest) ended = subst (λ (left : List ℕ). IsPlayed true false (text_source left rest) ended) c.in-Ok.ensures all in
    let line = summary_line (summary_of r.base r.journal) in
    let s = c.sum_up.result in
    let begun : has_begun r.base ≡ true = subst (λ (a : Status). Begins a r.base) c.in-Done.is e.begun in
    let same = played_same true false (script_source c.args.decks rest) ended (s.plant ≡ c.args.plant)
    (λ not stays. absurd (no (is_unplayed r.status) not (ap is_unplayed c.in-Done.is))) (λ not stays. absurd (no (has_begun r.base) begun not)) played in
    let summed = subst (λ (a : Status). SumsUp P.tells line a s.status mid (P.view s.plant)) (sym c.in-Done.is) c.sum_up.ensures.summed in
    let ends = ends_of P.tells line s.status mid (P.view s.plant) c.sum_up.ensures.summed in
    as_given c.args.decks (run_end P.tells P.view c.args.plant s) r.base r.journal r.since c.sum_up.ensures.base c.sum_up.ensures.journal c.sum_up.ensures.since
    (record {
      rest = rest;
      ended = r.status;
      between = mid;
      played = same;
      summed = summed;
      complete = λ large calm. ends_out P.tells line old mid (P.view s.plant) s.status e.goes calm ends;
      safe = λ b low. run_safe P.tells (e.run b).0 r.base r.journal r.since (summary_of r.base r.journal) s.status r.status old mid (P.view s.plant) low (e.run b).2 (generated_renews c.args.decks (e.run b).0 c.law_of_generated_scripts.ensures.plays c.requires (subst (λ (left : List ℕ). IsSaid true false left (e.run b).0) c.in-Ok.ensures ((e.run b).1 tt))) ends;
    })

pub returns-in-Done-clause-words : goal.returns-in-Done-clause-words
returns-in-Done-clause-words g c =
    let P = g.P.Plant in
    let r = c.play_script-status.result in
    let s = c.sum_up.result in
    let line = summary_line (summary_of r.base r.journal) in
    let ends = ends_of P.tells line s.status (P.view r.plant) (P.view s.plant) c.sum_up.ensures.summed in
    ends_words P.tells line (P.view r.plant) (P.view s.plant) s.status ends

pub returns-in-Done-clause-cause : goal.returns-in-Done-clause-cause
returns-in-Done-clause-cause g c =
    let P = g.P.Plant in
    let r = c.play_script-status.result in
    let s = c.sum_up.result in
    let line = summary_line (summary_of r.base r.journal) in
    let ends = ends_of P.tells line s.status (P.view r.plant) (P.view s.plant) c.sum_up.ensures.summed in
    ends_caused P.tells line (P.view r.plant) (P.view s.plant) (P.view c.args.plant) s.status ends c.play_script-status.ensures.goes

pub returns-in-Done-clause-begun : goal.returns-in-Done-clause-begun
returns-in-Done-clause-begun g c =
    let P = g.P.Plant in
    let r = c.play_script-status.result in
    let s = c.sum_up.result in
    let line = summary_line (summary_of r.base r.journal) in
    let ends = ends_of P.tells line s.status (P.view r.plant) (P.view s.plant) c.sum_up.ensures.summed in
    rw c.sum_up.ensures.base (ends_begins P.tells line (P.view r.plant) (P.view s.plant) r.base s.status ends (subst (λ (a : Status). Begins a r.base) c.in-Done.is c.play_script-status.ensures.begun))

pub returns-in-Done-clause-goes : goal.returns-in-Done-clause-goes
returns-in-Done-clause-goes g c =
    let P = g.P.Plant in
    let r = c.play_script-status.result in
    let s = c.sum_up.result in
    let line = summary_line (summary_of r.base r.journal) in
    let ends = ends_of P.tells line s.status (P.view r.plant) (P.view s.plant) c.sum_up.ensures.summed in
    proceeds_on (P.view c.args.plant) (P.view r.plant) (P.view s.plant) c.play_script-status.ensures.goes (ends_proceeds P.tells line (P.view r.plant) (P.view s.plant) s.status ends)

pub returns-in-Done-clause-unbegun : goal.returns-in-Done-clause-unbegun
returns-in-Done-clause-unbegun g c none =
    let r = c.play_script-status.result in
    absurd (no (has_begun r.base) (subst (λ (a : Status). Begins a r.base) c.in-Done.is c.play_script-status.ensures.begun) (sym (ap has_begun c.sum_up.ensures.base) ∙ none))

pub returns-in-Done-clause-unsaid : goal.returns-in-Done-clause-unsaid
returns-in-Done-clause-unsaid g c told none =
    let r = c.play_script-status.result in
    absurd (no (has_begun r.base) (subst (λ (a : Status). Begins a r.base) c.in-Done.is c.play_script-status.ensures.begun) (sym (ap has_begun c.sum_up.ensures.base) ∙ none))

pub returns-in-Done-clause-lost : goal.returns-in-Done-clause-lost
returns-in-Done-clause-lost g c none =
    let r = c.play_script-status.result in
    absurd (no (has_begun r.base) (subst (λ (a : Status). Begins a r.base) c.in-Done.is c.play_script-status.ensures.begun) (sym (ap has_begun c.sum_up.ensures.base) ∙ none))

pub returns-in-Done-clause-volumes : goal.returns-in-Done-clause-volumes
returns-in-Done-clause-volumes g c told none =
    let r = c.play_script-status.result in
    absurd (no (has_begun r.base) (subst (λ (a : Status). Begins a r.base) c.in-Done.is c.play_script-status.ensures.begun) (sym (ap has_begun c.sum_up.ensures.base) ∙ none))

-- THE RUN ENDED BEFORE

pub returns-clause-generated : goal.returns-clause-generated
returns-clause-generated g c =
    let P = g.P.Plant in
    let old = P.view c.args.plant in
    let r = c.play_script-status.result in
    let e = c.play_script-status.ensures in
    let text = c.in-Ok.text in
    let rest = left_of c.play_script-status.new.script in
    let mid = P.view r.plant in
    let ended : RunEnd = run_end P.tells P.view c.args.plant r in
    let all : IsPlayed true false (text_source text rest) ended = record {
      every = record { refused = e.refused; words = e.words; device = e.device; formatted = e.formatted; unstarted = e.unstarted; faulted = e.source; untouched = e.untouched; idle = e.idle; unprinted = e.unprinted; volumes = e.volumes; loses = e.loses; arms = e.arms; lost = e.lost; room = e.room; roomy = e.roomy; read = e.read; taken = e.taken };
      formats = e.formats;
      run = e.run;
      complete = e.complete;
    } in
    let played : IsPlayed true false (script_source c.args.decks rest) ended = subst (λ (left : List ℕ). IsPlayed true false (text_source left rest) ended) c.in-Ok.ensures all in
    let line = summary_line (summary_of r.base r.journal) in
    record {
      rest = rest;
      ended = r.status;
      between = mid;
      played = played;
      summed = not_summed P.tells line r.status mid c.in_default.not-Done;
      safe = λ b low. whole_safe P.tells (e.run b).0 old (run_result r.status r.base r.journal r.since mid) (e.run b).2
          (generated_renews c.args.decks (e.run b).0 c.law_of_generated_scripts.ensures.plays c.requires (subst (λ (left : List ℕ). IsSaid true false left (e.run b).0) c.in-Ok.ensures ((e.run b).1 tt)));
      complete = λ large calm. played.complete tt (refusal_generated c.args.decks old c.law_of_generated_scripts.ensures.plays c.requires large)
          (still_generated old mid mid (proceeds_none mid) (λ d. refl) P.tells c.args.decks c.law_of_generated_scripts.ensures.plays c.requires calm);
    }
