-- The worked examples, by computation.
use Rattle.std.proofs.Common.{refl}
use Rattle.std.specs.Fmt.{digits}
use Rattle.run_turns.specs.Examples.{DormantOnce, FreeByAnother, HoldOfOne, LockAndBusy, MemberNotUp, NoSuchMember, ResetsRefused, RestartOrPurge, SpentHoldFrees, StopOfNone, TakeoverFrees, TwoMembers}
use Rattle.run_turns.specs.PrintExamples.{PaperGoesOnAtTheMark, PrintingIsTakenOver}
use Rattle.run_turns.specs.ReplaceExamples.{CopyIsNotReplaced, CopyIsReplaced, ReplacedUnderLock}
use Rattle.run_turns.specs.StopExamples.{DeckStopsAnywhere, FlightIsSettled, LockIsFreeInTheMiddle, StartFindsAlike, StoppedHolderHolds}

pub lock_and_busy : LockAndBusy
unfolding digits
lock_and_busy = refl

pub member_not_up : MemberNotUp
unfolding digits
member_not_up = refl

pub takeover_frees : TakeoverFrees
unfolding digits
takeover_frees = refl

pub resets_refused : ResetsRefused
unfolding digits
resets_refused = refl

pub restart_or_purge : RestartOrPurge
unfolding digits
restart_or_purge = refl

pub hold_of_one : HoldOfOne
unfolding digits
hold_of_one = refl

pub spent_hold_frees : SpentHoldFrees
unfolding digits
spent_hold_frees = (refl, refl, refl)

pub dormant_once : DormantOnce
unfolding digits
dormant_once = refl

pub no_such_member : NoSuchMember
unfolding digits
no_such_member = refl

pub two_members : TwoMembers
unfolding digits
two_members = refl

pub free_by_another : FreeByAnother
unfolding digits
free_by_another = refl

pub stop_of_none : StopOfNone
unfolding digits
stop_of_none = refl

pub deck_stops_anywhere : DeckStopsAnywhere
unfolding digits
deck_stops_anywhere = (refl, refl, refl, refl, refl, refl, refl, refl, refl, refl)

pub flight_is_settled : FlightIsSettled
unfolding digits
flight_is_settled = (refl, refl, refl)

pub start_finds_alike : StartFindsAlike
unfolding digits
start_finds_alike = (refl, refl, refl, refl)

pub lock_is_free_in_the_middle : LockIsFreeInTheMiddle
unfolding digits
lock_is_free_in_the_middle = (refl, refl)

pub stopped_holder_holds : StoppedHolderHolds
unfolding digits
stopped_holder_holds = (refl, refl, refl, refl, refl, refl)

pub printing_is_taken_over : PrintingIsTakenOver
unfolding digits
printing_is_taken_over = refl

pub paper_goes_on_at_the_mark : PaperGoesOnAtTheMark
unfolding digits
paper_goes_on_at_the_mark = (refl, refl)

pub copy_is_replaced : CopyIsReplaced
unfolding digits
copy_is_replaced = refl

pub copy_is_not_replaced : CopyIsNotReplaced
unfolding digits
copy_is_not_replaced = refl

pub replaced_under_lock : ReplacedUnderLock
unfolding digits
replaced_under_lock = refl
