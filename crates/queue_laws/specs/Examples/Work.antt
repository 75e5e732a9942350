-- Work: which job is selected, and what a reset makes of one.
use Rattle.std.specs.Prelude.{◌≡◌, ℕ, false, List, [], ◌∷◌, ◌++◌, codes}
use Rattle.mas_types.specs.declared.commands.Command.TheVariants as command
use Rattle.mas_types.specs.declared.commands.What.TheVariants as what
use Rattle.mas_types.specs.Shown.{shown}
use Rattle.mas_types.specs.Starts.{default_config}
use Rattle.queue_laws.specs.Examples.Small.{member, job, empty, Given, queue_after, fields_of, deck_of, decks, three_units}

-- two jobs wait for conversion: what is shown of them after the commands
abbrev pub two_jobs_after : List Given → List (List ℕ)
two_jobs_after cs = shown (queue_after (empty default_config) (decks 1 2 ++ cs)) what.Queue

abbrev pub FirstJobIsConverted : Type 0
FirstJobIsConverted =
    two_jobs_after ((member 1, command.TakeConvert) ∷ [])
    ≡ codes "JOB00001 A A 05 CONVERT SYSA -" ∷ codes "JOB00002 A A 05 CONVERT - -" ∷ []

abbrev pub GreatestPriorityIsConverted : Type 0
GreatestPriorityIsConverted =
    two_jobs_after ((member 1, command.SetPrio (job 2) (record { 0 = 15 })) ∷ (member 1, command.TakeConvert) ∷ [])
    ≡ codes "JOB00001 A A 05 CONVERT - -" ∷ codes "JOB00002 A A 15 CONVERT SYSA -" ∷ []

abbrev pub HeldJobIsPassedOver : Type 0
HeldJobIsPassedOver =
    two_jobs_after ((member 1, command.SetPrio (job 2) (record { 0 = 15 })) ∷ (member 1, command.Hold (job 2))
    ∷ (member 1, command.TakeConvert) ∷ [])
    ≡ codes "JOB00001 A A 05 CONVERT SYSA -" ∷ codes "JOB00002 A A 15 CONVERT - HELD" ∷ []

-- RESETS

-- the jobs Y, which may start again, and N, which may not
abbrev pub may_restart : List Given
may_restart = deck_of 1 1 (fields_of (codes "Y")) (codes "//Y JOB" ∷ codes "/*JOBPARM RESTART=Y" ∷ codes "//S EXEC PGM=IEFBR14" ∷ [])

abbrev pub may_not_restart : List Given
may_not_restart =
    deck_of 1 2 (record (fields_of (codes "N")) { restart = false }) (codes "//N JOB" ∷ codes "/*JOBPARM RESTART=N" ∷ codes "//S EXEC PGM=IEFBR14" ∷ [])

-- member 1 executes Y and member 2 executes N when member 3 resets them both
abbrev pub resets_of_both : List Given
resets_of_both =
    may_restart ++ may_not_restart ++ three_units 1 1 ++ three_units 2 2
    ++ (member 3, command.Reset (member 1)) ∷ (member 3, command.Reset (member 2)) ∷ []

abbrev pub ResetPurgesWhatMayNotRestart : Type 0
ResetPurgesWhatMayNotRestart =
    shown (queue_after (empty (record default_config { members = 3 })) resets_of_both) what.Queue
    ≡ codes "JOB00001 Y A 05 EXECUTE - -" ∷ codes "JOB00002 N A 05 PURGE - -" ∷ []
