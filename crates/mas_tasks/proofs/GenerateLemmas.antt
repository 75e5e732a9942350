-- The run of a generated script, and the line that says what it came to.
use Rattle.std.proofs.Common.{◌≡◌, ◌≢◌, inl, inr, ⊎_elim, ℕ, zero, suc, ◌+◌, ◌≤◌, ◌<◌, ◌==◌, Bool, true, false, if◌then◌else◌, List, [], ◌∷◌, ◌++◌, get_or, codes, decimal, append-nil, refl, sym, ◌∙◌, ap, subst, arith}
use Rattle.std.specs.Prelude.{Contains}
use Rattle.mas_types.specs.declared.answers.Closing.{Closing}
use Rattle.mas_types.specs.declared.answers.Status.{Status}
use Rattle.mas_types.specs.declared.answers.Status.TheVariants as status
use Rattle.mas_types.specs.declared.ids.Dev.{Dev}
use Rattle.mas_types.specs.declared.ids.Dev.TheVariants.{Ckpt1, Ckpt2}
use Rattle.mas_types.specs.declared.ids.MemberId.{MemberId}
use Rattle.mas_types.specs.declared.journals.Batch.{Batch}
use Rattle.mas_types.specs.declared.journals.Journal.{Journal}
use Rattle.mas_types.specs.declared.queues.Queue.{Queue}
use Rattle.mas_types.specs.Closings.{closing_line, closing_text}
use Rattle.mas_types.specs.Names.{member_text, padded, unpadded}
use Rattle.mas_types.specs.Numerals.{in_digits}
use Rattle.mas_types.specs.Shown.{words}
use Rattle.mas_types.specs.Starts.{no_queue}
use Rattle.spool_plant.specs.declared.plant.Act.TheVariants.{Done, Failed}
use Rattle.spool_plant.specs.declared.plant.Part.TheVariants.{Console, Disk as DiskPart}
use Rattle.spool_plant.specs.View.{View, Line}
use Rattle.spool_plant.specs.Acts.{next, top}
use Rattle.gen_work.specs.declared.summaries.Summary.{Summary}
use Rattle.gen_work.specs.Generated.{script_text}
use Rattle.gen_work.specs.Summaries.{summary_line, summary_of}
use Rattle.script_lang.specs.declared.types.Script.{Script}
use Rattle.mas_complex.specs.Headline.{whole}
use Rattle.mas_complex.specs.Renewals.{no_renewals}
use Rattle.mas_complex.specs.declared.renewals.Renewal.{Renewal}
use Rattle.mas_complex.specs.declared.renewals.Renewals.{Renewals}
use Rattle.mas_complex.proofs.Papers.{same_papers}
use Rattle.run_opening.specs.Lines.{Proceeds}
use Rattle.run_opening.specs.Refusals.{is_of_script, IsPlayedOut}
use Rattle.mas_run.specs.Refusals.{refusal_before_play}
use Rattle.run_opening.specs.Runs.{has_begun, Begins, IsSafe}
use Rattle.mas_run.specs.Runs.{IsRun, LinesBegun, LinesEnded, ReplacesNone, RunResult, WerePlayed, run_result}
use Rattle.run_opening.specs.Statuses.{IsCaused, is_unplayed}
use Rattle.member_node.specs.Calls.{console_now}
use Rattle.run_opening.proofs.ProceedLemmas.{proceeds_none, proceeds_of}
use Rattle.run_opening.proofs.RefusalLemmas.{free_answer}
use Rattle.mas_tasks.specs.Generates.{IsGenerated, IsSaid, MaySay, SaysOne, SumsUp, script_source}
use Rattle.mas_tasks.specs.Plays.{IsPlayed}
use Rattle.mas_tasks.specs.ScriptRuns.{RunEnd, Sourced}
use Rattle.mas_tasks.proofs.ExtendLemmas.{AreOver, lines_over, safe_on}
use Rattle.mas_tasks.proofs.PlayLemmas.{not_played}
use Rattle.mas_tasks.proofs.TaskLemmas.{memory_not_source}

-- what a run is the same as where nothing was done
abbrev pub as_same : Type 0 → RunEnd → RunEnd
as_same other r = record r { same = other }

pub played_same : (cold only : Bool) (source : Sourced) (r : RunEnd) (other : Type 0) → (is_unplayed r.answer ≡ true → r.same → other) → (has_begun r.base ≡ false → r.same → other) → IsPlayed cold only source r
    → IsPlayed cold only source (as_same other r)
played_same cold only source r other idle begun p = let e = p.every in record {
  every = record {
    refused = e.refused;
    words = e.words;
    device = e.device;
    formatted = e.formatted;
    unstarted = e.unstarted;
    faulted = e.faulted;
    untouched = λ not. ⊎_elim (λ lost. inl lost) (λ rest. inr (⊎_elim (λ s. inl (begun not s)) (λ looked. inr looked) rest)) (e.untouched not);
    idle = λ not. idle not (e.idle not);
    unprinted = e.unprinted;
    volumes = e.volumes;
    loses = e.loses;
    arms = e.arms;
    lost = e.lost;
    room = e.room;
    roomy = e.roomy;
    read = e.read;
    taken = e.taken;
  };
  formats = p.formats;
  run = p.run;
  complete = p.complete;
}

-- the run whose end has what another one gave it
module _ (decks : ℕ) (r : RunEnd) where
  abbrev pub given : Queue → Journal → ℕ → RunEnd
  given base journal since = record r { base = base; journal = journal; since = since }

  pub as_given : (base : Queue) (journal : Journal) (since : ℕ) → r.base ≡ base → r.journal ≡ journal → r.since ≡ since → IsGenerated decks (given base journal since) → IsGenerated decks r
  as_given base journal since bases journals sinces x =
      subst (λ (b : Queue). IsGenerated decks (given b r.journal r.since)) (sym bases)
      (subst (λ (j : Journal). IsGenerated decks (given base j r.since)) (sym journals) (subst (λ (s : ℕ). IsGenerated decks (given base journal s)) (sym sinces) x))

-- WHAT IS SAID AT THE END

-- where the lines weren't all played nothing is said
pub not_summed : (tells : Type 0) (line : List ℕ) (ended : Status) (v : View) → ended ≢ status.Done → SumsUp tells line ended ended v v
not_summed tells line status.Done v not = absurd (not refl)
not_summed tells line status.Words v not = (refl, refl)
not_summed tells line (status.BadLine at cause) v not = (refl, refl)
not_summed tells line status.TooLong v not = (refl, refl)
not_summed tells line status.SourceFault v not = (refl, refl)
not_summed tells line (status.NotFormatted first second) v not = (refl, refl)
not_summed tells line status.BothLost v not = (refl, refl)
not_summed tells line status.ConsoleFault v not = (refl, refl)
not_summed tells line (status.DeviceSize dev size) v not = (refl, refl)
not_summed tells line status.NoMemory v not = (refl, refl)

pub may_say : (tells : Type 0) (line : List ℕ) (answer : Status) (old new : View) → IsSaid tells line answer old new → MaySay tells line answer old new
may_say tells line status.Done old new said = said
may_say tells line status.ConsoleFault old new said = said
may_say tells line status.NoMemory old new said = absurd said
may_say tells line status.Words old new said = said
may_say tells line (status.BadLine at cause) old new said = said
may_say tells line status.TooLong old new said = said
may_say tells line status.SourceFault old new said = said
may_say tells line (status.NotFormatted first second) old new said = said
may_say tells line status.BothLost old new said = said
may_say tells line (status.DeviceSize dev size) old new said = said

-- how a run may end that was played to its end: the line was said, or the console failed, or nothing was done
pub data Ends (tells : Type 0) (line : List ℕ) (old new : View) : Status → Type 0 where
  Saying : SaysOne tells line old new Done → Ends tells line old new status.Done
  Failing : SaysOne tells line old new Failed → Ends tells line old new status.ConsoleFault
  Wanting : new ≡ old → Ends tells line old new status.NoMemory

pub ends_of : (tells : Type 0) (line : List ℕ) (answer : Status) (old new : View) → MaySay tells line answer old new → Ends tells line old new answer
ends_of tells line status.Done old new said = Saying said
ends_of tells line status.ConsoleFault old new said = Failing said
ends_of tells line status.NoMemory old new said = Wanting said
ends_of tells line status.Words old new said = absurd said
ends_of tells line (status.BadLine at cause) old new said = absurd said
ends_of tells line status.TooLong old new said = absurd said
ends_of tells line status.SourceFault old new said = absurd said
ends_of tells line (status.NotFormatted first second) old new said = absurd said
ends_of tells line status.BothLost old new said = absurd said
ends_of tells line (status.DeviceSize dev size) old new said = absurd said

module _ (tells : Type 0) (line : List ℕ) (v1 v2 : View) where
  pub ends_proceeds : (answer : Status) → Ends tells line v1 v2 answer → Proceeds v1 v2
  ends_proceeds _ (Saying said) = proceeds_of v1 v2 said.acts.goes
  ends_proceeds _ (Failing said) = proceeds_of v1 v2 said.acts.goes
  ends_proceeds _ (Wanting same) = subst (λ (v : View). Proceeds v1 v) (sym same) (proceeds_none v1)

  pub ends_words : (answer : Status) → Ends tells line v1 v2 answer → answer ≢ status.Words
  ends_words _ (Saying said) e = absurd (cc)
  ends_words _ (Failing said) e = absurd (cc)
  ends_words _ (Wanting same) e = absurd (cc)

  pub ends_begins : (base : Queue) (answer : Status) → Ends tells line v1 v2 answer → has_begun base ≡ true → Begins answer base
  ends_begins base _ (Saying said) begun = begun
  ends_begins base _ (Failing said) begun = begun
  ends_begins base _ (Wanting same) begun = tt

  pub ends_caused : (v0 : View) (answer : Status) → Ends tells line v1 v2 answer → Proceeds v0 v1 → IsCaused answer v0 v2
  ends_caused v0 _ (Saying said) goes = record { failed1 = λ e. absurd (cc); failed2 = λ e. absurd (cc); console = λ e. absurd (cc) }
  ends_caused v0 _ (Failing said) goes = record { failed1 = λ e. absurd (cc); failed2 = λ e. absurd (cc); console = λ e. omega (arith, goes.faults Console, said.acts.failed refl) }
  ends_caused v0 _ (Wanting same) goes = record { failed1 = λ e. absurd (cc); failed2 = λ e. absurd (cc); console = λ e. absurd (cc) }

-- WHAT A RUN PROMISES OF EACH MOMENT, once the line was said

-- the line is no closing line
abbrev word_text : Bool → ℕ → List ℕ
word_text is m = unpadded (padded (if is then codes "OPER" else member_text m))

apart : (is : Bool) (m : ℕ) (rest other : List ℕ) → word_text is m ++ rest ≡ codes "SUMMARY ENTERED" ++ other → ⊥
apart true m rest other e = let second : 80 ≡ 85 = ap (λ (l : List ℕ). get_or l 1 0) e in absurd (omega (arith, second))
apart false m rest other e = let second : 89 ≡ 85 = ap (λ (l : List ℕ). get_or l 1 0) e in absurd (omega (arith, second))

no_closing : (by : MemberId) (at : ℕ) (end : Closing) (s : Summary) → closing_line by at end ≡ summary_line s → ⊥
no_closing by at end s e = apart (by.0 == 0) by.0 (32 ∷ words (in_digits 5 at ∷ closing_text end ∷ [])) (32 ∷ words (decimal s.entered ∷ codes "PRINTED" ∷ decimal s.printed ∷ codes "QUEUED" ∷ decimal s.queued ∷ [])) e

one_line : (line other : List ℕ) → Contains (whole line ∷ []) (whole other) → line ≡ other
one_line line other (zero, lt, e) = ap (λ (l : Line). l.text) e
one_line line other (suc k, lt, e) = absurd (omega (arith, lt))

module _ (base : Queue) (J : Journal) (since : ℕ) (s : Summary) (v1 v2 : View) (started : since ≤ v1.now) (low : v2.now < top) (over : AreOver J.batches v1.now) where
  next_low : v2.now ≡ next v1.now → v2.now ≡ v1.now + 1
  next_low e = omega (arith, e, low)

  pub ends_safe : (tells : Type 0) → tells → (answer : Status) → Ends tells (summary_line s) v1 v2 answer → IsSafe tells base J no_renewals since v1 → IsSafe tells base J no_renewals since v2
  ends_safe tells told _ (Saying said) safe =
      safe_on base J since v1 v2 said.acts.goes (next_low said.acts.time) low started (said.says told).disks (same_papers v1 v2 said.acts.goes said.acts.time (said.says told).paper) (λ d. said.acts.else_lost (DiskPart d) (inr (λ e. absurd (cc)))) over tells told (whole (summary_line s) ∷ []) (said.says told).console
      (λ by at end there. no_closing by at end s (sym (one_line (summary_line s) (closing_line by at end) there))) safe
  ends_safe tells told _ (Failing said) safe =
      safe_on base J since v1 v2 said.acts.goes (next_low said.acts.time) low started (said.says told).disks (same_papers v1 v2 said.acts.goes said.acts.time (said.says told).paper) (λ d. said.acts.else_lost (DiskPart d) (inl (λ e. absurd (cc)))) over tells told [] ((said.says told).console ∙ sym (append-nil (console_now v1)))
      (λ by at end there. absurd (omega (arith, there.1))) safe
  ends_safe tells told _ (Wanting same) safe = subst (λ (v : View). IsSafe tells base J no_renewals since v) (sym same) safe

-- all of it, where a plant tells or doesn't
by_told : (tells : Type 0) (base : Queue) (J : Journal) (since : ℕ) (v : View) → (tells → IsSafe tells base J no_renewals since v) → IsSafe tells base J no_renewals since v
by_told tells base J since v h = record {
  crash = λ t. (h t).crash t;
  alike = λ t. (h t).alike t;
  texts = λ t. (h t).texts t;
  told = λ t. (h t).told t;
  paper = λ t. (h t).paper t;
  levels = λ t. (h t).levels t;
  few = λ t. (h t).few t;
}

-- a run none of whose lines replaces a copy
none_renewed : (tells : Type 0) (b : LinesBegun) (e : LinesEnded) (first : Dev → ℕ) (old : View) → ((d : Dev) → ReplacesNone d b.steps) → WerePlayed tells b e first old → e.renewals ≡ no_renewals
none_renewed tells b e first old none played = ⊎_elim
    (λ unplayed. unplayed.unrenewed)
    (λ have. ap (λ (rs : List Renewal). let both : Renewals = record { first = rs; second = e.renewals.second } in both) (have.unrenewed1 (none Ckpt1))
    ∙ ap (λ (rs : List Renewal). let both : Renewals = record { first = []; second = rs } in both) (have.unrenewed2 (none Ckpt2)))
    played.bare

pub whole_safe : (tells : Type 0) (script : Script) (v0 : View) (end : RunResult) → IsRun true tells script v0 end
    → ((d : Dev) → ReplacesNone d script.steps) → IsSafe tells end.base end.journal no_renewals end.since end.view
whole_safe tells script v0 end run none =
    subst (λ (rs : Renewals). IsSafe tells end.base end.journal rs end.since end.view) (none_renewed tells _ _ run.first v0 none run.steps.played) run.steps.safe

-- a run that was played, with what was said then
pub run_safe : (tells : Type 0) (script : Script) (base : Queue) (J : Journal) (since : ℕ) (s : Summary) (answer ended : Status) (v0 v1 v2 : View) → v2.now < top
    → IsRun true tells script v0 (run_result ended base J since v1) → ((d : Dev) → ReplacesNone d script.steps) → Ends tells (summary_line s) v1 v2 answer → IsSafe tells base J no_renewals since v2
run_safe tells script base J since s answer ended v0 v1 v2 low run none ends = by_told tells base J since v2 (λ told.
    let steps = run.steps in
    let all : J.batches ≡ steps.rest = steps.batches ∙ ap (λ (bs : List Batch). bs ++ steps.rest) steps.opened.0 in
    let over : AreOver J.batches v1.now = subst (λ (bs : List Batch). AreOver bs v1.now) (sym all) (lines_over (Unit {0}) _ _ steps.opened.0 (steps.played.told told)) in
    ends_safe base J since s v1 v2 run.begun.moment.1 low over tells told answer ends (whole_safe tells script v0 (run_result ended base J since v1) run none))

-- THERE IS NO MEMORY before anything is done

not_begun : (b : Bool) → b ≡ true → b ≡ false → ⊥
not_begun b p q = absurd (cc)

memory_not_done : (answer : Status) → answer ≡ status.NoMemory → answer ≡ status.Done → ⊥
memory_not_done answer e f = absurd (cc)

pub not_generated : (decks : ℕ) (r : RunEnd) → r.answer ≡ status.NoMemory → r.base ≡ no_queue → r.same → r.new ≡ r.old → IsGenerated decks r
not_generated decks r memory none stays view =
    let text = script_text decks in
    record {
      rest = text;
      ended = r.answer;
      between = r.new;
      played = not_played true false (script_source decks text) r none stays view (ap is_of_script memory)
          (λ told. free_answer true (refusal_before_play true false text r.old) r.answer (inr memory)) (λ f. absurd (memory_not_source r.answer memory f)) (λ told. (0, omega arith, refl));
      summed = not_summed r.tells (summary_line (summary_of r.base r.journal)) r.answer r.new (memory_not_done r.answer memory);
      safe = λ begun low. absurd (not_begun (has_begun r.base) begun (ap has_begun none));
      complete = λ large calm. subst (λ (a : Status). IsPlayedOut true a) (sym memory) tt;
    }
