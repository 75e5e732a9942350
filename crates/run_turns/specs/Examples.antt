-- Worked examples: what scripts of several members say.
use Rattle.std.specs.Prelude.{◌≡◌, ℕ, List, [], ◌∷◌, map, codes}
use Rattle.mas_types.specs.declared.commands.Command.TheVariants as command
use Rattle.mas_types.specs.declared.commands.What.TheVariants as what
use Rattle.mas_types.specs.declared.queues.Config.{Config}
use Rattle.mas_types.specs.Starts.{default_config}
use Rattle.queue_laws.specs.Examples.Small.{class, empty, job, member}
use Rattle.script_lang.specs.declared.types.Ask.{Ask}
use Rattle.script_lang.specs.declared.types.Ask.TheVariants as ask
use Rattle.script_lang.specs.declared.types.Step.{Step}
use Rattle.run_turns.specs.Cuts.{whole}
use Rattle.run_turns.specs.Fuses.{calm_run}
use Rattle.run_turns.specs.Runs.{console}

-- a line of a script
abbrev pub line : ℕ → Ask → Step
line m asked = record { by = member m; what = asked }

-- a cold run says these lines, each of them whole
abbrev pub Says : Config → List Step → List (List ℕ) → Type 0
Says config lines texts = map (λ s. s.line) (console (calm_run (empty config) lines)) ≡ map whole texts

-- THE LOCK is held from one line to another, and the other member finds it busy.
abbrev pub lock_and_busy_lines : List Step
lock_and_busy_lines =
    line 1 ask.Lock
    ∷ line 2 (ask.Command (command.Show what.Queue))
    ∷ line 1 ask.Free
    ∷ line 2 (ask.Command (command.Show what.Queue))
    ∷ []

abbrev pub LockAndBusy : Type 0
LockAndBusy =
    Says default_config lock_and_busy_lines
    (codes "SYSA 00001 OK"
    ∷ codes "SYSB 00002 BUSY SYSA"
    ∷ codes "SYSA 00003 OK"
    ∷ codes "SYSB 00004 OK 0"
    ∷ [])

-- A MEMBER THAT WAS STOPPED plays nothing; it is reset by another, and stays down.
abbrev pub member_not_up_lines : List Step
member_not_up_lines =
    line 1 (ask.Deck (codes "//A JOB" ∷ []))
    ∷ line 1 ask.Stop
    ∷ line 1 (ask.Deck (codes "//A JOB" ∷ []))
    ∷ line 2 (ask.Command (command.Reset (member 1)))
    ∷ line 2 (ask.Deck (codes "//B JOB" ∷ []))
    ∷ []

abbrev pub MemberNotUp : Type 0
MemberNotUp =
    Says default_config member_not_up_lines
    (codes "SYSA 00001 OK JOB00001"
    ∷ codes "SYSA 00003 DOWN"
    ∷ codes "SYSB 00004 OK SYSA"
    ∷ codes "SYSB 00005 OK JOB00002"
    ∷ [])

-- A STOPPED MEMBER HOLDS what it held, until another takes the lock over, and gives it up at its step's end.
abbrev pub takeover_frees_lines : List Step
takeover_frees_lines =
    line 1 ask.Lock
    ∷ line 1 (ask.Deck (codes "//A JOB" ∷ []))
    ∷ line 1 ask.Stop
    ∷ line 2 (ask.Deck (codes "//B JOB" ∷ []))
    ∷ line 2 (ask.Command (command.Reset (member 1)))
    ∷ line 2 (ask.Deck (codes "//C JOB" ∷ []))
    ∷ []

abbrev pub TakeoverFrees : Type 0
TakeoverFrees =
    Says default_config takeover_frees_lines
    (codes "SYSA 00001 OK"
    ∷ codes "SYSA 00002 OK JOB00001"
    ∷ codes "SYSB 00004 BUSY SYSA"
    ∷ codes "SYSB 00005 OK SYSA"
    ∷ codes "SYSB 00006 OK JOB00002"
    ∷ [])

-- NOBODY IS RESET who is up, or isn't one of the members.
abbrev pub resets_refused_lines : List Step
resets_refused_lines =
    line 1 (ask.Command (command.Reset (member 2)))
    ∷ line 1 (ask.Command (command.Reset (member 8)))
    ∷ []

abbrev pub ResetsRefused : Type 0
ResetsRefused =
    Says default_config resets_refused_lines
    (codes "SYSA 00001 NO UP SYSB"
    ∷ codes "SYSA 00002 NO NO MEMBER"
    ∷ [])

-- WHAT A RESET LEAVES: a job that may start again waits, and another is purged.
abbrev pub restart_or_purge_lines : List Step
restart_or_purge_lines =
    line 1 (ask.Deck (codes "//Y JOB" ∷ codes "/*JOBPARM RESTART=Y" ∷ codes "//S EXEC PGM=IEFBR14" ∷ []))
    ∷ line 1 (ask.Deck (codes "//N JOB" ∷ codes "/*JOBPARM RESTART=N" ∷ codes "//S EXEC PGM=IEFBR14" ∷ []))
    ∷ line 1 (ask.Work 3)
    ∷ line 2 (ask.Work 3)
    ∷ line 1 ask.Stop
    ∷ line 2 ask.Stop
    ∷ line 3 (ask.Command (command.Reset (member 1)))
    ∷ line 3 (ask.Command (command.Reset (member 2)))
    ∷ line 3 (ask.Command (command.Show what.Queue))
    ∷ []

abbrev pub RestartOrPurge : Type 0
RestartOrPurge =
    Says (record default_config { members = 3 }) restart_or_purge_lines
    (codes "SYSA 00001 OK JOB00001"
    ∷ codes "SYSA 00002 OK JOB00002"
    ∷ codes "SYSA 00003 OK DONE 3"
    ∷ codes "SYSB 00004 OK DONE 3"
    ∷ codes "SYSC 00007 OK SYSA"
    ∷ codes "SYSC 00008 OK SYSB"
    ∷ codes "SYSC 00009 - JOB00001 Y A 05 EXECUTE - -"
    ∷ codes "SYSC 00009 - JOB00002 N A 05 PURGE - -"
    ∷ codes "SYSC 00009 OK 2"
    ∷ [])

-- A HOLD OF ONE COMMAND is spent by the first step under LOCK.
abbrev pub hold_of_one_lines : List Step
hold_of_one_lines =
    line 1 ask.Lock
    ∷ line 1 (ask.Command (command.Hold (job 1)))
    ∷ line 2 (ask.Command (command.Show what.Queue))
    ∷ []

abbrev pub HoldOfOne : Type 0
HoldOfOne =
    Says (record default_config { hold = 1 }) hold_of_one_lines
    (codes "SYSA 00001 OK"
    ∷ codes "SYSA 00002 NO NO JOB"
    ∷ codes "SYSB 00003 OK 0"
    ∷ [])

-- DORMANCY: of three steps of one member the second is refused.
abbrev pub dormant_once_lines : List Step
dormant_once_lines =
    line 1 (ask.Command (command.Show what.Queue))
    ∷ line 1 (ask.Command (command.Show what.Queue))
    ∷ line 1 (ask.Command (command.Show what.Queue))
    ∷ []

abbrev pub DormantOnce : Type 0
DormantOnce =
    Says (record default_config { dormancy = 2 }) dormant_once_lines
    (codes "SYSA 00001 OK 0"
    ∷ codes "SYSA 00002 DORMANT 3"
    ∷ codes "SYSA 00003 OK 0"
    ∷ [])

-- A MEMBER ABOVE THE CONFIGURED ONES, and one that gives up what it doesn't hold.
abbrev pub no_such_member_lines : List Step
no_such_member_lines =
    line 3 (ask.Command (command.Show what.Queue))
    ∷ line 2 (ask.Deck (codes "//X1 JOB CLASS=C,MSGLEVEL=(1,1),MSGCLASS=A" ∷ codes "//G1 EXEC PGM=IEBGENER,TIME=1" ∷ codes "//SYSPRINT DD SYSOUT=(A,,STD),DEST=FAR" ∷ codes "//SYSIN DD DUMMY" ∷ codes "//SYSUT2 DD DUMMY" ∷ codes "//SYSUT1 DD DATA,DLM=ZZ" ∷ codes "/*" ∷ codes "//X DD *" ∷ codes "ZZ" ∷ []))
    ∷ line 2 (ask.Command (command.SetPrio (job 1) (record { 0 = 5 })))
    ∷ line 1 ask.Free
    ∷ []

abbrev pub NoSuchMember : Type 0
NoSuchMember =
    Says (record default_config { jobs = 16; members = 2; groups = 20; outputs = 32; volumes = 1 }) no_such_member_lines
    (codes "SYSC 00001 NO NO MEMBER"
    ∷ codes "SYSB 00002 OK JOB00001"
    ∷ codes "SYSB 00003 OK JOB00001"
    ∷ codes "SYSA 00004 NO NOT HOLDER"
    ∷ [])

-- TWO MEMBERS SHARE A QUEUE.
abbrev pub two_members_lines : List Step
two_members_lines =
    line 2 (ask.Work 2)
    ∷ line 1 (ask.Deck (codes "//LONGNAME JOB CLASS=0" ∷ []))
    ∷ line 1 (ask.Work 2)
    ∷ line 2 (ask.Work 1)
    ∷ line 2 (ask.Command (command.Show what.Queue))
    ∷ line 2 (ask.Command (command.Show what.Outputs))
    ∷ line 1 (ask.Command (command.Show what.Queue))
    ∷ line 2 (ask.Command (command.SetClass (job 3) (class 65)))
    ∷ []

abbrev pub TwoMembers : Type 0
TwoMembers =
    Says (record default_config { outputs = 32; groups = 60; jobs = 16; volumes = 1; members = 2 }) two_members_lines
    (codes "SYSB 00001 OK DONE 0"
    ∷ codes "SYSA 00002 OK JOB00001"
    ∷ codes "SYSA 00003 OK DONE 2"
    ∷ codes "SYSB 00004 OK DONE 1"
    ∷ codes "SYSB 00005 - JOB00001 LONGNAME 0 05 EXECUTE SYSB -"
    ∷ codes "SYSB 00005 OK 1"
    ∷ codes "SYSB 00006 OK 0"
    ∷ codes "SYSA 00007 - JOB00001 LONGNAME 0 05 EXECUTE SYSB -"
    ∷ codes "SYSA 00007 OK 1"
    ∷ codes "SYSB 00008 NO NO JOB"
    ∷ [])

-- A HOLD IS COUNTED IN COMMANDS: a deck spends three, so that under LOCK a hold of three is spent by it, and one of
-- four isn't.
abbrev pub deck_under_lock : List Step
deck_under_lock =
    line 1 ask.Lock
    ∷ line 1 (ask.Deck (codes "//A JOB" ∷ []))
    ∷ line 2 (ask.Command (command.Show what.Queue))
    ∷ line 1 (ask.Command (command.Hold (job 7)))
    ∷ line 2 (ask.Command (command.Hold (job 7)))
    ∷ []

abbrev pub SpentHoldFrees : Type 0
SpentHoldFrees =
    (Says (record default_config { hold = 3 }) deck_under_lock
    (codes "SYSA 00001 OK" ∷ codes "SYSA 00002 OK JOB00001" ∷ codes "SYSB 00003 - JOB00001 A A 05 CONVERT - -" ∷ codes "SYSB 00003 OK 1"
    ∷ codes "SYSA 00004 NO NO JOB" ∷ codes "SYSB 00005 NO NO JOB" ∷ []))
    × (Says (record default_config { hold = 4 }) deck_under_lock
    (codes "SYSA 00001 OK" ∷ codes "SYSA 00002 OK JOB00001" ∷ codes "SYSB 00003 BUSY SYSA" ∷ codes "SYSA 00004 NO NO JOB" ∷ codes "SYSB 00005 NO NO JOB" ∷ []))
    × (Says default_config deck_under_lock
    (codes "SYSA 00001 OK" ∷ codes "SYSA 00002 OK JOB00001" ∷ codes "SYSB 00003 BUSY SYSA" ∷ codes "SYSA 00004 NO NO JOB" ∷ codes "SYSB 00005 BUSY SYSA" ∷ []))

-- The lock is no other member's to give up.
abbrev pub FreeByAnother : Type 0
FreeByAnother =
    Says default_config (line 1 ask.Lock ∷ line 2 ask.Free ∷ line 2 (ask.Command (command.Hold (job 7)))
    ∷ line 1 ask.Free ∷ line 1 ask.Free ∷ [])
    (codes "SYSA 00001 OK" ∷ codes "SYSB 00002 NO NOT HOLDER" ∷ codes "SYSB 00003 BUSY SYSA" ∷ codes "SYSA 00004 OK" ∷ codes "SYSA 00005 NO NOT HOLDER" ∷ [])

-- A stop of a member above the configured ones does nothing, and so does a second stop.
abbrev pub StopOfNone : Type 0
StopOfNone =
    Says default_config (line 8 ask.Stop ∷ line 8 ask.Lock ∷ line 1 ask.Stop ∷ line 1 ask.Stop ∷ line 1 ask.Lock
    ∷ line 2 ask.Lock ∷ [])
    (codes "SYSH 00002 NO NO MEMBER" ∷ codes "SYSA 00005 DOWN" ∷ codes "SYSB 00006 OK" ∷ [])
