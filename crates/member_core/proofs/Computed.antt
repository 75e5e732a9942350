-- The worked examples, by computation.
use Rattle.std.proofs.Common.{refl}
use Rattle.member_core.specs.Examples.{OneGateTellsNothing, OldGateDrops, NewGateKeeps, SecondLockWaits, WholeTurnIsTold, BegunBatchTellsNothing, StartKeepsWhatACopyReads, UnsureGateFallsBack, AwayMayLock, LockedReadsFirst, FirstReadIsFollowed, SecondReadIsFollowed, ReadyGivesCommands, BatchIsLogged, FirstLogIsFollowed, SecondLogIsFollowed, FirstOpeningIsFollowed, WrittenBatchIsTold, StoppedIsTakenOver, CrashIsFollowedByStart, RenewedCopyIsRead, BatchKeepsFromRenewing, NothingRenewsBothCopies}

pub one_gate_tells_nothing : OneGateTellsNothing
one_gate_tells_nothing = refl

pub old_gate_drops : OldGateDrops
old_gate_drops = (refl, refl)

pub new_gate_keeps : NewGateKeeps
new_gate_keeps = refl

pub second_lock_waits : SecondLockWaits
second_lock_waits = refl

pub whole_turn_is_told : WholeTurnIsTold
whole_turn_is_told = refl

pub begun_batch_tells_nothing : BegunBatchTellsNothing
begun_batch_tells_nothing = refl

pub start_keeps_what_a_copy_reads : StartKeepsWhatACopyReads
start_keeps_what_a_copy_reads = (refl, refl)

pub unsure_gate_falls_back : UnsureGateFallsBack
unsure_gate_falls_back = refl

pub away_may_lock : AwayMayLock
away_may_lock = refl

pub locked_reads_first : LockedReadsFirst
locked_reads_first = refl

pub first_read_is_followed : FirstReadIsFollowed
first_read_is_followed = refl

pub second_read_is_followed : SecondReadIsFollowed
second_read_is_followed = refl

pub ready_gives_commands : ReadyGivesCommands
ready_gives_commands = refl

pub batch_is_logged : BatchIsLogged
batch_is_logged = refl

pub first_log_is_followed : FirstLogIsFollowed
first_log_is_followed = refl

pub second_log_is_followed : SecondLogIsFollowed
second_log_is_followed = refl

pub first_opening_is_followed : FirstOpeningIsFollowed
first_opening_is_followed = refl

pub written_batch_is_told : WrittenBatchIsTold
written_batch_is_told = refl

pub stopped_is_taken_over : StoppedIsTakenOver
stopped_is_taken_over = refl

pub crash_is_followed_by_start : CrashIsFollowedByStart
crash_is_followed_by_start = refl

pub renewed_copy_is_read : RenewedCopyIsRead
renewed_copy_is_read = (refl, refl)

pub batch_keeps_from_renewing : BatchKeepsFromRenewing
batch_keeps_from_renewing = refl

pub nothing_renews_both_copies : NothingRenewsBothCopies
nothing_renews_both_copies = refl
