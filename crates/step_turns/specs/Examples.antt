-- Worked examples: how steps are cut into sittings.
use Rattle.std.specs.Prelude.{◌≡◌, ℕ, true, false, List, [], ◌∷◌, ◌++◌, length, map, replicate, Some, codes}
use Rattle.mas_types.specs.declared.commands.Command.{Command}
use Rattle.mas_types.specs.declared.commands.Command.TheVariants as command
use Rattle.mas_types.specs.declared.commands.What.TheVariants as what
use Rattle.mas_types.specs.declared.ids.MemberId.{MemberId}
use Rattle.mas_types.specs.declared.jobs.Job.{Job}
use Rattle.mas_types.specs.declared.jobs.JobFields.{JobFields}
use Rattle.mas_types.specs.declared.jobs.OutSpec.{OutSpec}
use Rattle.mas_types.specs.declared.jobs.Output.{Output}
use Rattle.mas_types.specs.declared.jobs.Text.{Text}
use Rattle.mas_types.specs.declared.jobs.Text.TheVariants.{Whole, Gone}
use Rattle.mas_types.specs.declared.queues.Config.{Config}
use Rattle.mas_types.specs.declared.queues.Queue.{Queue}
use Rattle.mas_types.specs.Queue.{job_at, output_at}
use Rattle.mas_types.specs.Run.{run}
use Rattle.mas_types.specs.Shown.{shown as shown_queue}
use Rattle.mas_types.specs.Starts.{default_config}
use Rattle.std.specs.Option.{option_map_or}
use Rattle.queue_laws.specs.Examples.Small.{member, job, index, class, name, empty, queue_after, fields_of, deck_of}
use Rattle.queue_laws.specs.Examples.Decks.{cards}
use Rattle.job_outcome.specs.declared.outcomes.Read.{Read}
use Rattle.job_outcome.specs.declared.outcomes.Read.TheVariants as read
use Rattle.step_turns.specs.Batches.{cut}
use Rattle.step_turns.specs.Courses.{Finds, course, sittings}
use Rattle.step_turns.specs.Entries.{all_entries, commands_in, entry_of}
use Rattle.step_turns.specs.Sittings.{Sitting, sit}
use Rattle.step_turns.specs.States.{Aside, Away, ByLock, Deck, Exchange, ForStep, Found, Fresh, Give, Holder, Inner, Keep, Outer, PrintLines, Progress, ReadText, Release, Rested, SpoolDeck, SpoolOutputs, State, Task, Told, Work, nothing_found}

-- a sitting as it is shown here: the commands of each batch, the state that it leaves, and what becomes of the lock
pub record Shown : Type 0 where
  pub batches : List (List Command)
  pub next : State
  pub release : Release

abbrev pub shown : Sitting → Shown
shown t = record { batches = map commands_in t.batches; next = t.next; release = t.release }

abbrev pub is : List (List Command) → State → Release → Shown
is batches next release = record { batches = batches; next = next; release = release }

-- WHAT IS FOUND: each text as the queue has it, and nothing lost

abbrev pub text_of : Text → Read
text_of (Whole lines) = read.Lines lines
text_of (Gone group count) = read.Gone group

abbrev pub with_text : Text → Found
with_text text = record nothing_found { read = text_of text }

abbrev pub calm_aside : Queue → Aside → Found
calm_aside Q (ReadText runs n fields p) = option_map_or (λ (j : Job). with_text j.text) (job_at Q n) nothing_found
calm_aside Q (PrintLines n i last p) = option_map_or (λ (o : Output). with_text o.text) (output_at Q n i) nothing_found
calm_aside Q (Exchange l (Some o)) = option_map_or (λ (j : Job). with_text j.text) (job_at Q o.job) nothing_found
calm_aside Q _ = nothing_found

abbrev pub calm : Finds
calm Q (Away aside) = calm_aside Q aside
calm Q _ = nothing_found

-- A DECK

abbrev pub one_group : Queue
one_group = empty (record default_config { groups = 1 })

-- member 1 in step 1, that took the lock for it, with so much of its hold left
abbrev pub for_step : ℕ → Holder
for_step hold = record { by = member 1; step = 1; hold = hold; grant = ForStep }

-- member 1 in step 1, that holds the lock by LOCK, with so much of its hold left
abbrev pub by_lock : ℕ → Holder
by_lock hold = record { by = member 1; step = 1; hold = hold; grant = ByLock }

abbrev pub deck_of_one_card : Task
deck_of_one_card = Deck (fields_of (codes "A")) (cards 0)

-- two sittings: the groups are taken, the text is written without the lock, and the job is entered
abbrev pub DeckIsTwoSittings : Type 0
DeckIsTwoSittings =
    (map shown (sittings 2 calm one_group (for_step 64) (Fresh deck_of_one_card))
    ≡ is ((command.Begin (fields_of (codes "A")) ∷ command.Take 1 ∷ []) ∷ []) (Away (SpoolDeck (job 1) (cards 0))) Inner
    ∷ is ((command.Enter (job 1) (cards 0) ∷ []) ∷ []) Told Outer
    ∷ [])
    × ((course calm one_group (for_step 64) deck_of_one_card).lines ≡ codes "SYSA 00001 OK JOB00001" ∷ [])

-- under LOCK a deck of one card gives the same batches, and the lock is never given up
abbrev pub DeckUnderLock : Type 0
DeckUnderLock =
    map shown (sittings 2 calm one_group (by_lock 64) (Fresh deck_of_one_card))
    ≡ is ((command.Begin (fields_of (codes "A")) ∷ command.Take 1 ∷ []) ∷ []) (Away (SpoolDeck (job 1) (cards 0))) Keep
    ∷ is ((command.Enter (job 1) (cards 0) ∷ []) ∷ []) Told Keep
    ∷ []

-- where a deck spends the hold by the step's end, the lock is given up there
abbrev pub DeckSpendsTheLock : Type 0
DeckSpendsTheLock =
    map shown (sittings 2 calm one_group (by_lock 3) (Fresh deck_of_one_card))
    ≡ is ((command.Begin (fields_of (codes "A")) ∷ command.Take 1 ∷ []) ∷ []) (Away (SpoolDeck (job 1) (cards 0))) Keep
    ∷ is ((command.Enter (job 1) (cards 0) ∷ []) ∷ []) Told Outer
    ∷ []

-- a refused Take closes the step in its first sitting
abbrev pub FullSpoolClosesTheDeck : Type 0
FullSpoolClosesTheDeck =
    (map shown (sittings 1 calm one_group (for_step 64) (Fresh (Deck (fields_of (codes "A")) (cards 51))))
    ≡ is ((command.Begin (fields_of (codes "A")) ∷ command.Take 2 ∷ command.Take 1 ∷ command.Drop (job 1) ∷ []) ∷ []) Told Outer ∷ [])
    × ((course calm one_group (for_step 64) (Deck (fields_of (codes "A")) (cards 51))).lines ≡ codes "SYSA 00001 NO SPOOL FULL" ∷ [])

-- volume 1 is lost between the two sittings: the job is dropped
abbrev pub loses_volume : Finds
loses_volume Q s = record (calm Q s) { lost = Some 1 }

abbrev pub LostVolumeDropsTheDeck : Type 0
LostVolumeDropsTheDeck =
    (map shown (sittings 2 loses_volume one_group (for_step 64) (Fresh deck_of_one_card))
    ≡ is ((command.Begin (fields_of (codes "A")) ∷ command.Take 1 ∷ []) ∷ []) (Away (SpoolDeck (job 1) (cards 0))) Inner
    ∷ is ((command.Drop (job 1) ∷ []) ∷ []) Told Outer
    ∷ [])
    × ((course loses_volume one_group (for_step 64) deck_of_one_card).lines ≡ codes "SYSA 00001 NO SPOOL LOST 1" ∷ [])

-- A COMMAND

abbrev pub CommandIsOneSitting : Type 0
CommandIsOneSitting =
    (map shown (sittings 1 calm one_group (for_step 64) (Fresh (Give (command.Hold (job 7)))))
    ≡ is ((command.Hold (job 7) ∷ []) ∷ []) Told Outer ∷ [])
    × ((course calm one_group (for_step 64) (Give (command.Hold (job 7)))).lines ≡ codes "SYSA 00001 NO NO JOB" ∷ [])

-- ANOTHER MEMBER ACTS BETWEEN TWO SITTINGS: the job whose text is written is cancelled; it is entered, and is to be
-- purged

abbrev pub after_both : Queue → List (MemberId × Command) → Queue
after_both Q theirs =
    let first = sit Q (for_step 64) (Fresh deck_of_one_card) nothing_found in
    let now = queue_after (run Q (all_entries first.batches)) theirs in
    run now (all_entries (sit now (for_step 64) first.next nothing_found).batches)

abbrev pub OthersActBetween : Type 0
OthersActBetween =
    (shown_queue (after_both one_group []) what.Queue ≡ codes "JOB00001 A A 05 CONVERT - -" ∷ [])
    × (shown_queue (after_both one_group ((member 2, command.Cancel (job 1)) ∷ [])) what.Queue ≡ codes "JOB00001 A A 05 PURGE - -" ∷ [])

-- WORK

abbrev pub four_groups : Config
four_groups = record default_config { groups = 4 }

-- a queue of one job with this name and this text
abbrev pub queue_of : Config → List ℕ → List (List ℕ) → Queue
queue_of config job_name text = queue_after (empty config) (deck_of 1 1 (fields_of job_name) text)

abbrev pub at : ℕ → ℕ → Progress
at done left = record { done = done; left = left }

-- a job that does nothing
abbrev pub null_fields : JobFields
null_fields = fields_of (codes "N")

abbrev pub null_job : Queue
null_job = queue_of four_groups (codes "N") (codes "//N JOB" ∷ codes "//S EXEC PGM=IEFBR14" ∷ [])

-- A job is converted and executed, each after its text was read without the lock, gathered and purged.
abbrev pub NullJobIsThreeSittings : Type 0
NullJobIsThreeSittings =
    (map shown (sittings 3 calm null_job (for_step 64) (Fresh (Work 9)))
    ≡ is ((command.TakeConvert ∷ []) ∷ []) (Away (ReadText false (job 1) null_fields (at 1 7))) Inner
    ∷ is ((command.Converted (job 1) ∷ command.TakeExec ∷ []) ∷ []) (Away (ReadText true (job 1) null_fields (at 3 5)))
    Inner
    ∷ is ((command.Ended (job 1) [] ∷ command.Gather ∷ command.Purge ∷ []) ∷ []) Told Outer
    ∷ [])
    × ((course calm null_job (for_step 64) (Work 9)).lines ≡ codes "SYSA 00001 OK DONE 6" ∷ [])

-- the last unit that may be done closes the step, and no other is looked for
abbrev pub OneUnitIsDone : Type 0
OneUnitIsDone =
    (map shown (sittings 1 calm null_job (for_step 64) (Fresh (Work 1)))
    ≡ is ((command.TakeConvert ∷ []) ∷ []) Told Outer ∷ [])
    × ((course calm null_job (for_step 64) (Work 1)).lines ≡ codes "SYSA 00001 OK DONE 1" ∷ [])

abbrev pub with_hold : ℕ → Queue
with_hold hold = record null_job { config = record four_groups { hold = hold } }

-- A hold of two commands is spent between two units, twice: the lock is given up there, and the next unit is looked for
-- after it.
abbrev pub SpentHoldIsGivenUp : Type 0
SpentHoldIsGivenUp =
    map shown (sittings 5 calm (with_hold 2) (for_step 2) (Fresh (Work 9)))
    ≡ is ((command.TakeConvert ∷ []) ∷ []) (Away (ReadText false (job 1) null_fields (at 1 7))) Inner
    ∷ is ((command.Converted (job 1) ∷ command.TakeExec ∷ []) ∷ []) (Rested (at 3 6)) Inner
    ∷ is [] (Away (ReadText true (job 1) null_fields (at 3 5))) Inner
    ∷ is ((command.Ended (job 1) [] ∷ command.Gather ∷ []) ∷ []) (Rested (at 5 4)) Inner
    ∷ is ((command.Purge ∷ []) ∷ []) Told Outer
    ∷ []

-- under LOCK a hold cuts no step; the lock is given up at the step's end
abbrev pub SpentHoldUnderLock : Type 0
SpentHoldUnderLock =
    map shown (sittings 3 calm (with_hold 2) (by_lock 2) (Fresh (Work 9)))
    ≡ is ((command.TakeConvert ∷ []) ∷ []) (Away (ReadText false (job 1) null_fields (at 1 7))) Keep
    ∷ is ((command.Converted (job 1) ∷ command.TakeExec ∷ []) ∷ []) (Away (ReadText true (job 1) null_fields (at 3 5)))
    Keep
    ∷ is ((command.Ended (job 1) [] ∷ command.Gather ∷ command.Purge ∷ []) ∷ []) Told Outer
    ∷ []

-- sixty-six parts of an entry each are two batches
abbrev pub FullBatchIsWritten : Type 0
FullBatchIsWritten = map length (cut [] (replicate 66 (entry_of one_group (member 1) 1 command.Purge ∷ [])))
    ≡ 64 ∷ 2 ∷ []

-- A JOB OF TWO OUTPUTS, of one line and of three

abbrev pub copies_deck : List (List ℕ)
copies_deck =
    codes "//C JOB" ∷ codes "//S1 EXEC PGM=IEBGENER" ∷ codes "//SYSUT1 DD *" ∷ codes "ONE" ∷ codes "/*" ∷ codes "//SYSUT2 DD SYSOUT=A"
    ∷ codes "//S2 EXEC PGM=IEBGENER" ∷ codes "//SYSUT1 DD *" ∷ codes "A" ∷ codes "B" ∷ codes "C" ∷ codes "/*" ∷ codes "//SYSUT2 DD SYSOUT=A" ∷ []

abbrev pub copies_fields : JobFields
copies_fields = fields_of (codes "C")

abbrev pub copies_job : Config → Queue
copies_job config = queue_of config (codes "C") copies_deck

abbrev pub output_of : List (List ℕ) → OutSpec
output_of text = record { class = class 65; dest = name (codes "LOCAL"); forms = name (codes "STD"); copies = 1; held = false; text = text }

abbrev pub two_outputs : List OutSpec
two_outputs = output_of (codes "ONE" ∷ []) ∷ output_of (codes "A" ∷ codes "B" ∷ codes "C" ∷ []) ∷ []

abbrev pub first_sittings : List Shown
first_sittings =
    is ((command.TakeConvert ∷ []) ∷ []) (Away (ReadText false (job 1) copies_fields (at 1 14))) Inner
    ∷ is ((command.Converted (job 1) ∷ command.TakeExec ∷ []) ∷ [])
    (Away (ReadText true (job 1) copies_fields (at 3 12))) Inner
    ∷ []

abbrev pub CopiesArePrinted : Type 0
CopiesArePrinted =
    (map shown (sittings 6 calm (copies_job four_groups) (for_step 64) (Fresh (Work 16)))
    ≡ first_sittings
    ++ is ((command.Take 2 ∷ []) ∷ []) (Away (SpoolOutputs (job 1) two_outputs (at 3 12))) Inner
    ∷ is ((command.Ended (job 1) two_outputs ∷ command.Gather ∷ command.Pick ∷ []) ∷ [])
    (Away (PrintLines (job 1) (index 1) 1 (at 6 9))) Inner
    ∷ is ((command.Mark (job 1) (index 1) 1 ∷ command.Done (job 1) (index 1) ∷ command.Pick ∷ []) ∷ [])
    (Away (PrintLines (job 1) (index 2) 3 (at 9 6))) Inner
    ∷ is ((command.Mark (job 1) (index 2) 3 ∷ command.Done (job 1) (index 2) ∷ command.Purge ∷ []) ∷ []) Told Outer
    ∷ [])
    × ((course calm (copies_job four_groups) (for_step 64) (Work 16)).lines ≡ codes "SYSA 00001 OK DONE 12" ∷ [])

-- WHAT REFUSES A UNIT, and so closes the step

-- one group is left for the two outputs: the member's groups become free
abbrev pub FullSpoolRefusesTheUnit : Type 0
FullSpoolRefusesTheUnit =
    (map shown (sittings 3 calm (copies_job (record four_groups { groups = 2 })) (for_step 64) (Fresh (Work 16)))
    ≡ first_sittings ++ is ((command.Take 2 ∷ command.Take 1 ∷ command.Drop (job 0) ∷ []) ∷ []) Told Outer ∷ [])
    × ((course calm (copies_job (record four_groups { groups = 2 })) (for_step 64) (Work 16)).lines ≡ codes "SYSA 00001 NO SPOOL FULL" ∷ [])

-- volume 1 is lost after the groups are taken
abbrev pub loses_outputs : Finds
loses_outputs Q (Away (SpoolOutputs n specs p)) = record nothing_found { lost = Some 1 }
loses_outputs Q s = calm Q s

abbrev pub LostVolumeRefusesTheUnit : Type 0
LostVolumeRefusesTheUnit =
    (map shown (sittings 4 loses_outputs (copies_job four_groups) (for_step 64) (Fresh (Work 16)))
    ≡ first_sittings
    ++ is ((command.Take 2 ∷ []) ∷ []) (Away (SpoolOutputs (job 1) two_outputs (at 3 12))) Inner
    ∷ is ((command.Drop (job 0) ∷ []) ∷ []) Told Outer
    ∷ [])
    × ((course loses_outputs (copies_job four_groups) (for_step 64) (Work 16)).lines ≡ codes "SYSA 00001 NO SPOOL LOST 1" ∷ [])

-- volume 1 is lost before the text is read
abbrev pub loses_text : Finds
loses_text Q s = record nothing_found { read = read.Lost 1 }

abbrev pub LostTextRefusesTheUnit : Type 0
LostTextRefusesTheUnit =
    (map shown (sittings 2 loses_text null_job (for_step 64) (Fresh (Work 9)))
    ≡ is ((command.TakeConvert ∷ []) ∷ []) (Away (ReadText false (job 1) null_fields (at 1 7))) Inner ∷ is [] Told Outer
    ∷ [])
    × ((course loses_text null_job (for_step 64) (Work 9)).lines ≡ codes "SYSA 00001 NO SPOOL LOST 1" ∷ [])

-- the printer is lost: no line is marked
abbrev pub loses_printer : Finds
loses_printer Q s = record (calm Q s) { printer = true }

abbrev pub LostPrinterRefusesTheUnit : Type 0
LostPrinterRefusesTheUnit =
    (map shown (sittings 5 loses_printer (copies_job four_groups) (for_step 64) (Fresh (Work 16)))
    ≡ first_sittings
    ++ is ((command.Take 2 ∷ []) ∷ []) (Away (SpoolOutputs (job 1) two_outputs (at 3 12))) Inner
    ∷ is ((command.Ended (job 1) two_outputs ∷ command.Gather ∷ command.Pick ∷ []) ∷ [])
    (Away (PrintLines (job 1) (index 1) 1 (at 6 9))) Inner
    ∷ is [] Told Outer
    ∷ [])
    × ((course loses_printer (copies_job four_groups) (for_step 64) (Work 16)).lines ≡ codes "SYSA 00001 NO PRINTER LOST" ∷ [])
