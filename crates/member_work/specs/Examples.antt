-- Worked examples: what a WORK step gives, and how it closes.
use Rattle.member_work.specs.Names.{Command, OutNo, OutSpec, Gone, Config, Queue, change_job, change_output, change_setting, run, all_entries}
use Rattle.std.specs.Prelude.{◌≡◌, ℕ, true, false, List, [], ◌∷◌, ◌++◌, Some, None, codes}
use Rattle.mas_types.specs.declared.commands.Command.TheVariants as command
use Rattle.mas_types.specs.declared.commands.What.TheVariants as what
use Rattle.mas_types.specs.declared.jobs.JobFields.{JobFields}
use Rattle.mas_types.specs.Shown.{shown}
use Rattle.mas_types.specs.Starts.{default_config}
use Rattle.queue_laws.specs.Examples.Small.{member, job, class, name, empty, queue_after, fields_of, deck_of, decks}
use Rattle.queue_laws.specs.Examples.Work.{may_restart, may_not_restart}
use Rattle.member_decks.specs.Examples.{commands_of}
use Rattle.job_outcome.specs.declared.outcomes.Read.TheVariants as read
use Rattle.member_work.specs.Looks.{Look, calm}
use Rattle.member_work.specs.Work.{work_batches, work_lines}

-- the commands of each batch of a step WORK n of member 1
abbrev pub batches_at : Queue → ℕ → List Look → List (List Command)
batches_at Q n looks = commands_of (work_batches Q (member 1) 2 n looks)

-- the line of a step WORK n of member 1, as step 2
abbrev pub line_at : Queue → ℕ → List Look → List (List ℕ)
line_at Q n looks = work_lines Q (member 1) 2 n looks

-- the queue after a step WORK n of a member
abbrev pub worked : ℕ → ℕ → Queue → Queue
worked m n Q = run Q (all_entries (work_batches Q (member m) 2 n []))

abbrev pub four_groups : Config
four_groups = record default_config { groups = 4 }

-- a queue of one job with these fields and this text
abbrev pub queue_of : Config → JobFields → List (List ℕ) → Queue
queue_of config fields text = queue_after (empty config) (deck_of 1 1 fields text)

-- A STEP THAT DOES NOTHING: two units for conversion, two for execution, gather, purge

abbrev pub null_deck : List (List ℕ)
null_deck = codes "//N JOB" ∷ codes "//S EXEC PGM=IEFBR14" ∷ []

abbrev pub null_job : Config → Queue
null_job config = queue_of config (fields_of (codes "N")) null_deck

abbrev pub NullStepIsDone : Type 0
NullStepIsDone =
    (batches_at (null_job four_groups) 9 []
    ≡ (command.TakeConvert ∷ []) ∷ (command.Converted (job 1) ∷ command.TakeExec ∷ [])
    ∷ (command.Ended (job 1) [] ∷ command.Gather ∷ command.Purge ∷ []) ∷ [])
    × (line_at (null_job four_groups) 9 [] ≡ codes "SYSA 00002 OK DONE 6" ∷ [])
    × (worked 1 9 (null_job four_groups)).jobs ≡ []

-- where a hold is of one command, each command is a batch of its own
abbrev pub HoldOfOneIsGivenUp : Type 0
HoldOfOneIsGivenUp =
    batches_at (null_job (record four_groups { hold = 1 })) 9 []
    ≡ (command.TakeConvert ∷ []) ∷ (command.Converted (job 1) ∷ []) ∷ (command.TakeExec ∷ [])
    ∷ (command.Ended (job 1) [] ∷ []) ∷ (command.Gather ∷ []) ∷ (command.Purge ∷ []) ∷ []

-- A COPY: its output is printed

abbrev pub copy_deck : List (List ℕ)
copy_deck =
    codes "//COPY JOB (1),'ME',CLASS=A,MSGCLASS=A,MSGLEVEL=(1,1)" ∷ codes "//S1 EXEC PGM=IEBGENER" ∷ codes "//SYSPRINT DD SYSOUT=*" ∷ codes "//SYSIN DD DUMMY"
    ∷ codes "//SYSUT1 DD *" ∷ codes "HELLO" ∷ codes "/*" ∷ codes "//SYSUT2 DD SYSOUT=A" ∷ []

abbrev pub copy_job : Config → Queue
copy_job config = queue_of config (fields_of (codes "COPY")) copy_deck

abbrev pub first_output : OutNo
first_output = record { 0 = 1 }

-- the commands by which an output's one line is printed, and its job purged
abbrev pub printed_line : List Command
printed_line = command.Mark (job 1) first_output 1 ∷ command.Done (job 1) first_output ∷ command.Purge ∷ []

-- the output of a line in class A
abbrev pub output_of : List ℕ → OutSpec
output_of line = record { class = class 65; dest = name (codes "LOCAL"); forms = name (codes "STD"); copies = 1; held = false; text = line ∷ [] }

abbrev pub CopyIsDone : Type 0
CopyIsDone =
    (batches_at (copy_job four_groups) 9 []
    ≡ (command.TakeConvert ∷ []) ∷ (command.Converted (job 1) ∷ command.TakeExec ∷ []) ∷ (command.Take 1 ∷ [])
    ∷ (command.Ended (job 1) (output_of (codes "HELLO") ∷ []) ∷ command.Gather ∷ command.Pick ∷ [])
    ∷ printed_line ∷ [])
    × (line_at (copy_job four_groups) 9 [] ≡ codes "SYSA 00002 OK DONE 9" ∷ [])
    × (worked 1 9 (copy_job four_groups)).jobs ≡ []

-- as long as nobody prints the job's output, the job waits in Hardcopy
abbrev pub CopyWaits : Type 0
CopyWaits =
    (shown (worked 1 5 (copy_job four_groups)) what.Queue ≡ codes "JOB00001 COPY A 05 HARDCOPY - -" ∷ [])
    × (shown (worked 1 5 (copy_job four_groups)) what.Outputs ≡ codes "JOB00001.01 A LOCAL STD 1 1 0 - -" ∷ [])
    × (shown (worked 1 5 (copy_job four_groups)) what.Spool ≡ codes "VOL1 FREE 2 OF 4" ∷ [])

-- the printer is lost in the seventh unit: the output stays busy, with its mark
abbrev pub LostPrinterRefusesTheUnit : Type 0
LostPrinterRefusesTheUnit =
    (line_at (worked 1 6 (copy_job four_groups)) 3 (record { read = None; lost = None; printer = true } ∷ []) ≡ codes "SYSA 00002 NO PRINTER LOST" ∷ [])
    × (batches_at (worked 1 6 (copy_job four_groups)) 3 (record { read = None; lost = None; printer = true } ∷ []) ≡ [])
    × (shown (worked 1 6 (copy_job four_groups)) what.Outputs ≡ codes "JOB00001.01 A LOCAL STD 1 1 0 SYSA -" ∷ [])

-- the queue in which member 1 prints two lines at a time
abbrev pub two_lines_each : Queue → Queue
two_lines_each Q = change_setting (member 1) (λ s. record s { lines = 2 }) Q

-- the queue in which the first output has so many copies
abbrev pub with_copies : ℕ → Queue → Queue
with_copies n Q = change_output (job 1) first_output (λ o. record o { copies = n }) Q

abbrev pub LinesFollowTheMark : Type 0
LinesFollowTheMark =
    (batches_at (with_copies 3 (worked 1 6 (two_lines_each (copy_job four_groups)))) 9 []
    ≡ (command.Mark (job 1) first_output 2 ∷ [])
    ∷ (command.Mark (job 1) first_output 3 ∷ command.Done (job 1) first_output ∷ command.Purge ∷ []) ∷ [])
    × (line_at (with_copies 3 (worked 1 6 (two_lines_each (copy_job four_groups)))) 9 [] ≡ codes "SYSA 00002 OK DONE 4" ∷ [])

-- A JCL ERROR, AND A JOB THAT IS ONLY SCANNED: what is listed is their output

abbrev pub wrong_deck : List (List ℕ)
wrong_deck = codes "//B JOB" ∷ codes "//S EXEC PGM=NOPE" ∷ []

abbrev pub wrong_job : Queue
wrong_job = queue_of four_groups (fields_of (codes "B")) wrong_deck

abbrev pub ErrorIsListed : Type 0
ErrorIsListed =
    (batches_at wrong_job 9 []
    ≡ (command.TakeConvert ∷ []) ∷ (command.Take 1 ∷ []) ∷ (command.Ended (job 1) (output_of (codes "JCL ERROR CARD 2 PGM") ∷ []) ∷ command.Gather ∷ command.Pick ∷ []) ∷ printed_line ∷ [])
    × (line_at wrong_job 9 [] ≡ codes "SYSA 00002 OK DONE 7" ∷ [])

abbrev pub scanned_job : Queue
scanned_job = queue_of four_groups (record (fields_of (codes "N")) { scan = true }) null_deck

abbrev pub ScanIsListed : Type 0
ScanIsListed =
    batches_at scanned_job 9 []
    ≡ (command.TakeConvert ∷ []) ∷ (command.Take 1 ∷ []) ∷ (command.Ended (job 1) (output_of (codes "NO ERROR") ∷ []) ∷ command.Gather ∷ command.Pick ∷ []) ∷ printed_line ∷ []

-- ONE UNIT, OF TWO JOBS

abbrev pub two_jobs : Queue
two_jobs = queue_after (empty four_groups) (decks 1 2)

abbrev pub FirstJobIsTaken : Type 0
FirstJobIsTaken =
    (line_at two_jobs 1 [] ≡ codes "SYSA 00002 OK DONE 1" ∷ [])
    × (shown (worked 1 1 two_jobs) what.Queue ≡ codes "JOB00001 A A 05 CONVERT SYSA -" ∷ codes "JOB00002 A A 05 CONVERT - -" ∷ [])

-- RESETS: of two members that run jobs the one may start again

abbrev pub two_at_work : Queue
two_at_work = worked 2 3 (worked 1 3
    (queue_after (empty (record four_groups { members = 3 })) (may_restart ++ may_not_restart)))

abbrev pub BothAreReset : Type 0
BothAreReset =
    (shown two_at_work what.Queue ≡ codes "JOB00001 Y A 05 EXECUTE SYSA -" ∷ codes "JOB00002 N A 05 EXECUTE SYSB -" ∷ [])
    × (shown (queue_after two_at_work
    ((member 3, command.Reset (member 1)) ∷ (member 3, command.Reset (member 2)) ∷ [])) what.Queue
    ≡ codes "JOB00001 Y A 05 EXECUTE - -" ∷ codes "JOB00002 N A 05 PURGE - -" ∷ [])

-- WHAT REFUSES A UNIT: the units before it are done, and the member's groups become free

-- no group is left for the output
abbrev pub FullSpoolRefusesTheUnit : Type 0
FullSpoolRefusesTheUnit =
    (batches_at (copy_job (record four_groups { groups = 1 })) 9 []
    ≡ (command.TakeConvert ∷ []) ∷ (command.Converted (job 1) ∷ command.TakeExec ∷ [])
    ∷ (command.Take 1 ∷ command.Drop (job 0) ∷ []) ∷ [])
    × (line_at (copy_job (record four_groups { groups = 1 })) 9 [] ≡ codes "SYSA 00002 NO SPOOL FULL" ∷ [])
    × (shown (worked 1 9 (copy_job (record four_groups { groups = 1 }))) what.Queue ≡ codes "JOB00001 COPY A 05 EXECUTE SYSA -" ∷ [])

-- a queue that has room for no output
abbrev pub FullOutputsRefuseTheUnit : Type 0
FullOutputsRefuseTheUnit =
    (batches_at (copy_job (record four_groups { outputs = 0 })) 9 []
    ≡ (command.TakeConvert ∷ []) ∷ (command.Converted (job 1) ∷ command.TakeExec ∷ []) ∷ (command.Take 1 ∷ [])
    ∷ (command.Ended (job 1) (output_of (codes "HELLO") ∷ []) ∷ command.Drop (job 0) ∷ []) ∷ [])
    × (line_at (copy_job (record four_groups { outputs = 0 })) 9 [] ≡ codes "SYSA 00002 NO OUTPUTS FULL" ∷ [])

-- the volume is lost before the outputs are written, in the fourth unit
abbrev pub LostVolumeRefusesTheUnit : Type 0
LostVolumeRefusesTheUnit =
    (batches_at (copy_job four_groups) 9
    (calm ∷ calm ∷ calm ∷ record { read = None; lost = Some 1; printer = false } ∷ [])
    ≡ (command.TakeConvert ∷ []) ∷ (command.Converted (job 1) ∷ command.TakeExec ∷ []) ∷ (command.Take 1 ∷ [])
    ∷ (command.Drop (job 0) ∷ []) ∷ [])
    × (line_at (copy_job four_groups) 9 (calm ∷ calm ∷ calm ∷ record { read = None; lost = Some 1; printer = false } ∷ []) ≡ codes "SYSA 00002 NO SPOOL LOST 1" ∷ [])

-- the volume is lost before the text is read, in the second unit
abbrev pub UnreadTextRefusesTheUnit : Type 0
UnreadTextRefusesTheUnit =
    (batches_at (copy_job four_groups) 9 (calm ∷ record { read = Some (read.Lost 1); lost = None; printer = false }
    ∷ []) ≡ (command.TakeConvert ∷ []) ∷ [])
    × (line_at (copy_job four_groups) 9 (calm ∷ record { read = Some (read.Lost 1); lost = None; printer = false } ∷ []) ≡ codes "SYSA 00002 NO SPOOL LOST 1" ∷ [])

-- a start found the text gone
abbrev pub gone_job : Queue
gone_job = change_job (job 1) (λ j. record j { text = Gone (record { 0 = 1 }) 2 }) (null_job four_groups)

abbrev pub GoneTextRefusesTheUnit : Type 0
GoneTextRefusesTheUnit =
    (batches_at gone_job 9 [] ≡ (command.TakeConvert ∷ []) ∷ [])
    × (line_at gone_job 9 [] ≡ codes "SYSA 00002 NO TEXT 1" ∷ [])
    × (line_at (worked 1 9 gone_job) 9 [] ≡ codes "SYSA 00002 NO TEXT 1" ∷ [])

-- a cancelled job takes no groups and gives no outputs
abbrev pub cancelled_job : Queue
cancelled_job = queue_after (worked 1 1 wrong_job) ((member 1, command.Cancel (job 1)) ∷ [])

abbrev pub CancelledJobIsPurged : Type 0
CancelledJobIsPurged =
    (batches_at cancelled_job 9 [] ≡ (command.Ended (job 1) (output_of (codes "JCL ERROR CARD 2 PGM") ∷ []) ∷ command.Purge ∷ []) ∷ [])
    × (line_at cancelled_job 9 [] ≡ codes "SYSA 00002 OK DONE 2" ∷ [])
