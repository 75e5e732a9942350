-- A race whose words aren't read.
use Rattle.std.proofs.Common.{◌≡◌, ◌⊎◌, inr, ℕ, Bool, true, false, List, Option, Some, None, Err, refl, sym, ◌∙◌, ap, subst}
use Rattle.std.specs.Prelude.{option_and_then}
use Rattle.mas_types.specs.declared.answers.Status.{Status}
use Rattle.mas_types.specs.declared.answers.Status.TheVariants as status
use Rattle.mas_words.specs.declared.types.Words.{Words}
use Rattle.mas_words.specs.declared.types.WordsNo.{WordsNo}
use Rattle.mas_words.specs.declared.types.WordsNo.TheVariants as no_words
use Rattle.mas_words.specs.Words.{Reads, words_of}
use Rattle.member_node.specs.Calls.{console_now}
use Rattle.run_opening.specs.Refusals.{IsPlayedOut, IsTakenFrom, is_of_script}
use Rattle.run_opening.specs.Runs.{Begins, has_begun, IsUnbegun}
use Rattle.run_opening.proofs.EndLemmas.{unbegun_not}
use Rattle.run_opening.proofs.ProceedLemmas.{proceeds_none}
use Rattle.run_opening.proofs.RefusalLemmas.{free_answer}
use Rattle.run_opening.proofs.VolumeLemmas.{kept_none}
use Rattle.mas_tasks.specs.Refusals.{refusal_before_play}
use Rattle.race_run.specs.Scripts.{refusal_before_race, IsSaid}
use Rattle.mas_tasks.specs.declared.tasks.Task.{Task}
use Rattle.mas_tasks.specs.declared.tasks.Task.TheVariants as task
use Rattle.mas_tasks.specs.Plays.{IsPlayed}
use Rattle.mas_tasks.specs.ScriptRuns.{RunEnd, Sourced}
use Rattle.mas_top.specs.Raced.{IsRaced}
use Rattle.mas_tasks.specs.Tasks.{race_asked, race_of, status_of_no, task_asked, task_of}
use Rattle.mas_top.specs.Tops.{DoesCalm}
use Rattle.mas_tasks.proofs.CheckLemmas.{not_checked}
use Rattle.mas_tasks.proofs.GenerateLemmas.{not_generated}
use Rattle.mas_tasks.proofs.PlayLemmas.{not_played, not_run, script_caused}
use Rattle.mas_tasks.proofs.ReportLemmas.{not_reported}
use Rattle.mas_tasks.proofs.TaskLemmas.{memory_not_source, none_words, some_memory, words_begins, words_caused, words_lost, words_or_memory}

-- WHICH RACE the words ask for

pub asked_race : (texts : List (List ℕ)) (words : Words) → words_of texts ≡ Some words → race_asked texts ≡ race_of words
asked_race texts words is = ap (λ (w : Option Words). option_and_then race_of w) is

pub race_same : (asked : Option Bool) (a b : Bool) → asked ≡ Some a → asked ≡ Some b → a ≡ b
race_same asked a b one two = cc

pub race_none : (asked : Option Bool) (a : Bool) → asked ≡ None → asked ≡ Some a → ⊥
race_none asked a none some = absurd (cc)

-- words that aren't read ask for no race, unless out of memory
pub race_memory : (texts : List (List ℕ)) (cold : Bool) (why : WordsNo) → Reads (words_of texts) (Err why) → race_asked texts ≡ Some cold → status_of_no why ≡ status.NoMemory
race_memory texts cold no_words.Words is e = absurd (race_none (race_asked texts) cold (ap (λ (w : Option Words). option_and_then race_of w) is) e)
race_memory texts cold no_words.NoMemory is e = refl

-- OUT OF MEMORY nothing is done

pub not_raced : (cold : Bool) (source : Sourced) (r : RunEnd) → r.answer ≡ status.NoMemory → IsUnbegun r.base r.journal r.since r.old.now → r.same → r.new ≡ r.old → (source.tells → IsTakenFrom source.left source.rest)
    → IsRaced cold source r
not_raced cold source r memory un stays view taken =
    let refusal = refusal_before_race cold source.left r.old in
    record {
      every = not_run cold source refusal (IsSaid cold source.left) r un.queue stays view (ap is_of_script memory) (λ told. free_answer cold refusal r.answer (inr memory)) (λ f. absurd (memory_not_source r.answer memory f)) taken;
      cause = script_caused r.answer r.old r.new (ap is_of_script memory);
      begun = subst (λ (a : Status). Begins a r.base) (sym memory) tt;
      unbegun = λ none. rw view un;
      unsaid = λ told none. ap console_now view;
      goes = rw view (proceeds_none r.old);
      race = λ begun. absurd (unbegun_not r.base r.journal r.since r.old.now un begun);
      complete = λ told none still. subst (λ (a : Status). IsPlayedOut cold a) (sym memory) tt;
    }

-- WORDS THAT AREN'T READ ask for nothing that is done with one thread either

asked_none : (texts : List (List ℕ)) (why : WordsNo) → Reads (words_of texts) (Err why) → Reads (task_asked texts) (Err why)
asked_none texts no_words.Words is = ap (λ (w : Option Words). option_and_then task_of w) is
asked_none texts no_words.NoMemory is = tt

module _ (texts : List (List ℕ)) (source : Sourced) (unread : Type 0) (r : RunEnd) (why : WordsNo) (answers : r.answer ≡ status_of_no why) (reads : Reads (words_of texts) (Err why))
    (is_unread : unread) (stays : r.same) (view : r.new ≡ r.old) (un : IsUnbegun r.base r.journal r.since r.old.now) (taken : source.tells → IsTakenFrom source.left source.rest) where
  memory : (t : Task) → task_asked texts ≡ Some t → r.answer ≡ status.NoMemory
  memory t is = answers ∙ some_memory (task_asked texts) t why (asked_none texts why reads) is

  played : (cold only : Bool) → r.answer ≡ status.NoMemory → IsPlayed cold only source r
  played cold only e =
      not_played cold only source r un.queue stays view (ap is_of_script e) (λ told. free_answer cold (refusal_before_play cold only source.left r.old) r.answer (inr e)) (λ f. absurd (memory_not_source r.answer e f)) taken

  pub words_calm : DoesCalm texts source unread r
  words_calm = record {
    words = λ e. none_words (task_asked texts) why (asked_none texts why reads) (sym answers ∙ e);
    refused = λ none. subst (λ (a : Status). (a ≡ status.Words) ⊎ (a ≡ status.NoMemory)) (sym answers) (words_or_memory why);
    untouched = λ none. (is_unread, stays, ap has_begun un.queue);
    play = λ cold is. played cold false (memory (task.Play cold) is);
    report = λ is. (is_unread, not_reported r (memory task.Report is) un.queue view);
    format = λ is. played true true (memory task.Format is);
    check = λ is. (is_unread, ap has_begun un.queue, rw (memory task.Check is, view) (not_checked r.tells r.old));
    generate = λ decks is. (is_unread, not_generated decks r (memory (task.Generate decks) is) un.queue stays view);
    cause = rw answers (words_caused why r.old r.new);
    begun = λ other. rw answers (words_begins why r.base un.queue);
    unbegun = λ none. rw view un;
    unsaid = λ told other none. ap console_now view;
    lost = λ none. rw (answers, view) (words_lost why r.old);
    goes = rw view (proceeds_none r.old);
    volumes = λ told none. rw view (kept_none r.old);
  }
