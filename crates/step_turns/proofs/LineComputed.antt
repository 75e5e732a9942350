-- The worked examples of steps that serve a line, by computation.
use Rattle.std.proofs.Common.{refl}
use Rattle.std.specs.Fmt.{digits}
use Rattle.step_turns.specs.LineExamples.{AckIsGiven, BadCardClosesTheLine, FrameIsGiven, FullSpoolClosesTheLine, GapIsPassedOver, GoneTextClosesTheLine, JobAfterAck, JobComesTwice, JobComesUnderLock, JobIsSent, JobIsThere, JobStays, LastNumberIsKept, LostLineKeepsTheJob, LostLineTakesNothing, LostVolumeClosesTheLine, OtherMemberGetsIt, UnknownNodeClosesTheLine}

pub job_is_sent : JobIsSent
unfolding digits
job_is_sent = (refl, refl)

pub job_stays : JobStays
unfolding digits
job_stays = (refl, refl)

pub frame_is_given : FrameIsGiven
unfolding digits
frame_is_given = refl

pub last_number_is_kept : LastNumberIsKept
unfolding digits
last_number_is_kept = (refl, refl)

pub job_comes_twice : JobComesTwice
unfolding digits
job_comes_twice = (refl, refl)

pub ack_is_given : AckIsGiven
unfolding digits
ack_is_given = refl

pub job_is_there : JobIsThere
unfolding digits
job_is_there = (refl, refl)

pub job_comes_under_lock : JobComesUnderLock
unfolding digits
job_comes_under_lock = refl

pub job_after_ack : JobAfterAck
unfolding digits
job_after_ack = (refl, refl)

pub gap_is_passed_over : GapIsPassedOver
unfolding digits
gap_is_passed_over = (refl, refl)

pub bad_card_closes_the_line : BadCardClosesTheLine
unfolding digits
bad_card_closes_the_line = (refl, refl)

pub unknown_node_closes_the_line : UnknownNodeClosesTheLine
unfolding digits
unknown_node_closes_the_line = (refl, refl)

pub full_spool_closes_the_line : FullSpoolClosesTheLine
unfolding digits
full_spool_closes_the_line = (refl, refl)

pub lost_volume_closes_the_line : LostVolumeClosesTheLine
unfolding digits
lost_volume_closes_the_line = (refl, refl)

pub other_member_gets_it : OtherMemberGetsIt
unfolding digits
other_member_gets_it = (refl, refl)

pub lost_line_takes_nothing : LostLineTakesNothing
unfolding digits
lost_line_takes_nothing = (refl, refl)

pub lost_line_keeps_the_job : LostLineKeepsTheJob
unfolding digits
lost_line_keeps_the_job = (refl, refl)

pub gone_text_closes_the_line : GoneTextClosesTheLine
unfolding digits
gone_text_closes_the_line = ((refl, refl), (refl, refl))
