-- The worked examples, by computation.
use Rattle.std.proofs.Common.{refl}
use Rattle.std.specs.Fmt.{digits}
use Rattle.queue_laws.specs.Examples.Decks.{FiftyCommentsTakeOneGroup, FiftyOneCommentsTakeTwoGroups, SpoolFullDropsTheDeck, DroppedGroupIsFree, SecondDeckIsOnSecondVolume, SeventeenthDeckIsRefused, NumbersBeginAgain}
use Rattle.queue_laws.specs.Examples.Work.{FirstJobIsConverted, GreatestPriorityIsConverted, HeldJobIsPassedOver, ResetPurgesWhatMayNotRestart}
use Rattle.queue_laws.specs.Examples.Printing.{MarkIsShown, ResetKeepsTheMark, MarksMoveAtTheirMember, DoneWaitsForTheLastLine, PurgedJobLeavesNothing}
use Rattle.queue_laws.specs.Examples.Displays.{SpoolIsShown, MembersAreShown, OneJobIsShown}
use Rattle.queue_laws.specs.Examples.Lines.{SentJobIsNumbered, GotJobIsNumbered, UnknownNodeIsRefused}

-- DECKS

pub fifty_comments_take_one_group : FiftyCommentsTakeOneGroup
fifty_comments_take_one_group = refl

pub fifty_one_comments_take_two_groups : FiftyOneCommentsTakeTwoGroups
fifty_one_comments_take_two_groups = refl

pub spool_full_drops_the_deck : SpoolFullDropsTheDeck
spool_full_drops_the_deck = refl

pub dropped_group_is_free : DroppedGroupIsFree
unfolding digits
dropped_group_is_free = refl

pub second_deck_is_on_second_volume : SecondDeckIsOnSecondVolume
second_deck_is_on_second_volume = refl

pub seventeenth_deck_is_refused : SeventeenthDeckIsRefused
seventeenth_deck_is_refused = refl

pub numbers_begin_again : NumbersBeginAgain
numbers_begin_again = (refl, refl)

-- WORK

pub first_job_is_converted : FirstJobIsConverted
unfolding digits
first_job_is_converted = refl

pub greatest_priority_is_converted : GreatestPriorityIsConverted
unfolding digits
greatest_priority_is_converted = refl

pub held_job_is_passed_over : HeldJobIsPassedOver
unfolding digits
held_job_is_passed_over = refl

pub reset_purges_what_may_not_restart : ResetPurgesWhatMayNotRestart
unfolding digits
reset_purges_what_may_not_restart = refl

-- PRINTING

pub mark_is_shown : MarkIsShown
unfolding digits
mark_is_shown = refl

pub reset_keeps_the_mark : ResetKeepsTheMark
unfolding digits
reset_keeps_the_mark = refl

pub marks_move_at_their_member : MarksMoveAtTheirMember
marks_move_at_their_member = refl

pub done_waits_for_the_last_line : DoneWaitsForTheLastLine
done_waits_for_the_last_line = refl

pub purged_job_leaves_nothing : PurgedJobLeavesNothing
purged_job_leaves_nothing = refl

-- DISPLAYS

pub spool_is_shown : SpoolIsShown
unfolding digits
spool_is_shown = refl

pub members_are_shown : MembersAreShown
unfolding digits
members_are_shown = refl

pub one_job_is_shown : OneJobIsShown
unfolding digits
one_job_is_shown = refl

-- LINES

pub sent_job_is_numbered : SentJobIsNumbered
sent_job_is_numbered = refl

pub got_job_is_numbered : GotJobIsNumbered
got_job_is_numbered = refl

pub unknown_node_is_refused : UnknownNodeIsRefused
unknown_node_is_refused = refl
