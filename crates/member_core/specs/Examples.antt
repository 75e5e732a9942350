-- Worked examples: small runs of events.
use Rattle.std.specs.Prelude.{◌≡◌, ℕ, Bool, true, false, List, [], ◌∷◌, ◌++◌, map, length}
use Rattle.mas_types.specs.declared.ids.Dev.TheVariants as dev
use Rattle.mas_types.specs.declared.queues.Queue.{Queue}
use Rattle.mas_types.specs.declared.commands.Command.TheVariants as command
use Rattle.mas_types.specs.declared.journals.Fate.{Fate}
use Rattle.mas_types.specs.declared.journals.Fate.TheVariants as fate
use Rattle.mas_types.specs.Starts.{default_config}
use Rattle.queue_laws.specs.Examples.Small.{member, empty, fields_of}
use Rattle.member_core.specs.declared.worlds.Left.{Left}
use Rattle.member_core.specs.declared.worlds.Left.TheVariants as left
use Rattle.member_core.specs.declared.worlds.Event.{Event}
use Rattle.member_core.specs.declared.worlds.Event.TheVariants as event
use Rattle.member_core.specs.declared.worlds.World.{World}
use Rattle.member_core.specs.Worlds.{kept}
use Rattle.member_core.specs.Events.{start, possible, moved, runs}

-- two members, and no job
abbrev pub base : Queue
base = empty (record default_config { jobs = 16; groups = 4 })

-- whether each of the events is possible, one after another
abbrev pub outcomes : World → List Event → List Bool
outcomes w [] = []
outcomes w (e ∷ es) = possible w e ∷ outcomes (moved w e) es

abbrev pub fates : List Event → List Fate
fates events = map (λ b. b.fate) (runs (start base) events).journal.batches

-- a member takes the lock and reads
abbrev pub turn : ℕ → List Event
turn m = event.Lock (member m) ∷ event.FirstRead (member m) ∷ event.SecondRead (member m) ∷ event.Primary (member m)
    ∷ []

-- member 1 begins a job, and has logged it on both copies and opened it on the first
abbrev pub half_open : List Event
half_open =
    turn 1 ++ event.Do (member 1) (command.Begin (fields_of [])) ∷ event.Log (member 1) dev.Ckpt1
    ∷ event.Log (member 1) dev.Ckpt2
    ∷ event.OpenCopy (member 1) dev.Ckpt1 ∷ []

-- member 1 can't tell yet. The first copy is lost and member 1 stops in its next act; member 2 takes over
abbrev pub take_over : Left → List Event
take_over left =
    event.Tell (member 1) ∷ event.Lose dev.Ckpt1 ∷ event.Stop (member 1) left ∷ event.Seize (member 2) (member 1)
    ∷ event.FirstRead (member 2) ∷ event.SecondRead (member 2) ∷ event.Primary (member 2) ∷ []

-- after one gate is opened, every event of the takeover is possible except telling
abbrev pub OneGateTellsNothing : Type 0
OneGateTellsNothing =
    outcomes (start base) (half_open ++ take_over left.Old)
    ≡ true ∷ true ∷ true ∷ true ∷ true ∷ true ∷ true ∷ true ∷ false ∷ true ∷ true ∷ true ∷ true ∷ true ∷ true ∷ []

-- where the act left the old gate, the batch is dropped
abbrev pub OldGateDrops : Type 0
OldGateDrops =
    (fates (half_open ++ take_over left.Old) ≡ fate.Dropped ∷ [])
    × (length (kept (runs (start base) (half_open ++ take_over left.Old))) ≡ 0)

-- where the act left the new gate, the batch is kept
abbrev pub NewGateKeeps : Type 0
NewGateKeeps = fates (half_open ++ take_over left.New) ≡ fate.Kept ∷ []

-- one member holds the lock
abbrev pub SecondLockWaits : Type 0
SecondLockWaits = outcomes (start base) (event.Lock (member 1) ∷ event.Lock (member 2) ∷ []) ≡ true ∷ false ∷ []

-- a turn that ends is told, and the lock is free for another
abbrev pub WholeTurnIsTold : Type 0
WholeTurnIsTold =
    outcomes (start base) (half_open
    ++ event.OpenCopy (member 1) dev.Ckpt2 ∷ event.Tell (member 1) ∷ event.Free (member 1) ∷ event.Lock (member 2)
    ∷ [])
    ≡ true ∷ true ∷ true ∷ true ∷ true ∷ true ∷ true ∷ true ∷ true ∷ true ∷ true ∷ true ∷ []

-- a second batch of the step is begun: the step can't be told
abbrev pub BegunBatchTellsNothing : Type 0
BegunBatchTellsNothing =
    outcomes (start base) (half_open
    ++ event.OpenCopy (member 1) dev.Ckpt2 ∷ event.Do (member 1) (command.Take 1) ∷ event.Tell (member 1) ∷ [])
    ≡ true ∷ true ∷ true ∷ true ∷ true ∷ true ∷ true ∷ true ∷ true ∷ true ∷ false ∷ []

-- a crash before the second copy is opened, and a start: Restart is written, and then a member takes the lock
abbrev pub crash_and_start : List Event
crash_and_start =
    half_open ++ event.Crash left.Old ∷ event.Start ∷ event.Log (member 0) dev.Ckpt1 ∷ event.Log (member 0) dev.Ckpt2
    ∷ event.OpenCopy (member 0) dev.Ckpt1 ∷ event.OpenCopy (member 0) dev.Ckpt2 ∷ event.Lock (member 2) ∷ []

abbrev pub StartKeepsWhatACopyReads : Type 0
StartKeepsWhatACopyReads =
    (outcomes (start base) crash_and_start
    ≡ true ∷ true ∷ true ∷ true ∷ true ∷ true ∷ true ∷ true ∷ true ∷ true ∷ true ∷ true ∷ true ∷ true ∷ true ∷ [])
    × (fates crash_and_start ≡ fate.Kept ∷ fate.Kept ∷ [])

-- a stop left the new list behind a gate that isn't sure, and a crash leaves the old one: the batch is dropped
abbrev pub UnsureGateFallsBack : Type 0
UnsureGateFallsBack =
    fates (half_open ++ event.Lose dev.Ckpt1 ∷ event.Stop (member 1) left.New ∷ event.Crash left.Old ∷ event.Start ∷ [])
    ≡ fate.Dropped ∷ []

-- a good copy isn't written anew. A lost one is; then the other one is lost, and a start finds the job
abbrev pub renewed_and_read : List Event
renewed_and_read =
    half_open ++ event.OpenCopy (member 1) dev.Ckpt2 ∷ event.Renew (member 1) dev.Ckpt1 ∷ event.Lose dev.Ckpt1
    ∷ event.Renew (member 1) dev.Ckpt1 ∷ event.Lose dev.Ckpt2 ∷ event.Crash left.Old ∷ event.Start ∷ []

abbrev pub RenewedCopyIsRead : Type 0
RenewedCopyIsRead =
    (outcomes (start base) renewed_and_read
    ≡ true ∷ true ∷ true ∷ true ∷ true ∷ true ∷ true ∷ true ∷ true ∷ false ∷ true ∷ true ∷ true ∷ true ∷ true ∷ [])
    × (length (kept (runs (start base) renewed_and_read)) ≡ 1)

-- no copy is written anew by a member that has given a command, nor where the other copy isn't good
abbrev pub BatchKeepsFromRenewing : Type 0
BatchKeepsFromRenewing =
    outcomes (start base) (turn 1
    ++ event.Lose dev.Ckpt1 ∷ event.Do (member 1) (command.Take 1) ∷ event.Renew (member 1) dev.Ckpt1 ∷ [])
    ≡ true ∷ true ∷ true ∷ true ∷ true ∷ true ∷ false ∷ []

abbrev pub NothingRenewsBothCopies : Type 0
NothingRenewsBothCopies =
    outcomes (start base) (turn 1
    ++ event.Lose dev.Ckpt1 ∷ event.Lose dev.Ckpt2 ∷ event.Renew (member 1) dev.Ckpt2 ∷ [])
    ≡ true ∷ true ∷ true ∷ true ∷ true ∷ true ∷ false ∷ []

-- WHICH EVENTS ARE POSSIBLE IN WHICH STAGE OF MEMBER 1

-- the events of a turn in order, then Free, Tell, a spool write of a group that is not the member's, a spool sync, a
-- printed line where nothing is printed, a stop, the lock for member 2, member 2 taking over, and a start
abbrev pub probes : List Event
probes =
    event.Lock (member 1) ∷ event.FirstRead (member 1) ∷ event.SecondRead (member 1) ∷ event.Primary (member 1)
    ∷ event.Do (member 1) (command.Take 1) ∷ event.Log (member 1) dev.Ckpt1 ∷ event.Log (member 1) dev.Ckpt2
    ∷ event.OpenCopy (member 1) dev.Ckpt1 ∷ event.OpenCopy (member 1) dev.Ckpt2 ∷ event.Free (member 1)
    ∷ event.Tell (member 1) ∷ event.SpoolWrite (member 1) (record { 0 = 0 }) ∷ event.SpoolSync (member 1) 1
    ∷ event.PrintLine (member 1)
    ∷ event.Stop (member 1) left.Old ∷ event.Lock (member 2) ∷ event.Seize (member 2) (member 1) ∷ event.Start ∷ []

-- which of the probes are possible after some events
abbrev pub possible_after : List Event → List Bool
possible_after events = map (possible (runs (start base) events)) probes

abbrev pub with_batch : List Event
with_batch = turn 1 ++ event.Do (member 1) (command.Take 1) ∷ []

abbrev pub both_logged : List Event
both_logged = event.Log (member 1) dev.Ckpt1 ∷ event.Log (member 1) dev.Ckpt2 ∷ []

abbrev pub written : List Event
written = with_batch ++ both_logged ++ event.OpenCopy (member 1) dev.Ckpt1 ∷ event.OpenCopy (member 1) dev.Ckpt2 ∷ []

-- the member is away, and nobody holds the lock
abbrev pub AwayMayLock : Type 0
AwayMayLock =
    possible_after ([])
    ≡ true ∷ false ∷ false ∷ false ∷ false ∷ false ∷ false ∷ false ∷ false ∷ false ∷ false ∷ false ∷ true ∷ false ∷ true
    ∷ true ∷ false ∷ false ∷ []

-- the member has the lock
abbrev pub LockedReadsFirst : Type 0
LockedReadsFirst =
    possible_after (event.Lock (member 1) ∷ [])
    ≡ false ∷ true ∷ false ∷ false ∷ false ∷ false ∷ false ∷ false ∷ false ∷ true ∷ false ∷ false ∷ true ∷ false ∷ true
    ∷ false ∷ false ∷ false ∷ []

-- the member has done the first read
abbrev pub FirstReadIsFollowed : Type 0
FirstReadIsFollowed =
    possible_after (event.Lock (member 1) ∷ event.FirstRead (member 1) ∷ [])
    ≡ false ∷ false ∷ true ∷ false ∷ false ∷ false ∷ false ∷ false ∷ false ∷ true ∷ false ∷ false ∷ true ∷ false ∷ true
    ∷ false ∷ false ∷ false ∷ []

-- the member has done the second read
abbrev pub SecondReadIsFollowed : Type 0
SecondReadIsFollowed =
    possible_after (event.Lock (member 1) ∷ event.FirstRead (member 1) ∷ event.SecondRead (member 1) ∷ [])
    ≡ false ∷ false ∷ false ∷ true ∷ false ∷ false ∷ false ∷ false ∷ false ∷ true ∷ false ∷ false ∷ true ∷ false ∷ true
    ∷ false ∷ false ∷ false ∷ []

-- the member is ready, without a batch
abbrev pub ReadyGivesCommands : Type 0
ReadyGivesCommands =
    possible_after (turn 1)
    ≡ false ∷ false ∷ false ∷ false ∷ true ∷ false ∷ false ∷ false ∷ false ∷ true ∷ false ∷ false ∷ true ∷ false ∷ true
    ∷ false ∷ false ∷ false ∷ []

-- the member is ready, with a batch: after a Take group 0 is no member's yet
abbrev pub BatchIsLogged : Type 0
BatchIsLogged =
    possible_after (with_batch)
    ≡ false ∷ false ∷ false ∷ false ∷ true ∷ true ∷ false ∷ false ∷ false ∷ false ∷ false ∷ false ∷ true ∷ false ∷ true
    ∷ false ∷ false ∷ false ∷ []

-- the batch is logged on the first copy
abbrev pub FirstLogIsFollowed : Type 0
FirstLogIsFollowed =
    possible_after (with_batch ++ event.Log (member 1) dev.Ckpt1 ∷ [])
    ≡ false ∷ false ∷ false ∷ false ∷ false ∷ false ∷ true ∷ false ∷ false ∷ false ∷ false ∷ false ∷ true ∷ false ∷ true
    ∷ false ∷ false ∷ false ∷ []

-- the batch is logged on both copies
abbrev pub SecondLogIsFollowed : Type 0
SecondLogIsFollowed =
    possible_after (with_batch ++ both_logged)
    ≡ false ∷ false ∷ false ∷ false ∷ false ∷ false ∷ false ∷ true ∷ false ∷ false ∷ false ∷ false ∷ true ∷ false ∷ true
    ∷ false ∷ false ∷ false ∷ []

-- the batch is logged on both copies, and the first copy is opened
abbrev pub FirstOpeningIsFollowed : Type 0
FirstOpeningIsFollowed =
    possible_after (with_batch ++ both_logged ++ event.OpenCopy (member 1) dev.Ckpt1 ∷ [])
    ≡ false ∷ false ∷ false ∷ false ∷ false ∷ false ∷ false ∷ false ∷ true ∷ false ∷ false ∷ false ∷ true ∷ false ∷ true
    ∷ false ∷ false ∷ false ∷ []

-- both copies are opened: the batch is kept, and group 0 is the member's
abbrev pub WrittenBatchIsTold : Type 0
WrittenBatchIsTold =
    possible_after (written)
    ≡ false ∷ false ∷ false ∷ false ∷ true ∷ false ∷ false ∷ false ∷ false ∷ true ∷ true ∷ true ∷ true ∷ false ∷ true
    ∷ false ∷ false ∷ false ∷ []

-- the member stopped with the lock
abbrev pub StoppedIsTakenOver : Type 0
StoppedIsTakenOver =
    possible_after (turn 1 ++ event.Stop (member 1) left.Old ∷ [])
    ≡ false ∷ false ∷ false ∷ false ∷ false ∷ false ∷ false ∷ false ∷ false ∷ false ∷ false ∷ false ∷ false ∷ false
    ∷ false ∷ false ∷ true ∷ false ∷ []

-- the events that are possible after a crash
abbrev pub CrashIsFollowedByStart : Type 0
CrashIsFollowedByStart =
    possible_after (turn 1 ++ event.Crash left.Old ∷ [])
    ≡ false ∷ false ∷ false ∷ false ∷ false ∷ false ∷ false ∷ false ∷ false ∷ false ∷ false ∷ false ∷ false ∷ false
    ∷ false ∷ false ∷ false ∷ true ∷ []
