-- The worked examples of lines to other nodes, by computation.
use Rattle.std.proofs.Common.{refl}
use Rattle.std.specs.Fmt.{digits}
use Rattle.nje_frames.specs.Reading.{number_at, name_at, card_at, cards_at}
use Rattle.nje_frames.specs.Streams.{frame_of}
use Rattle.run_turns.specs.LineExamples.{JobIsGotOnce, JobIsSentOn, StopAtTheAck, StopBeforeTheAck}

pub job_is_sent_on : JobIsSentOn
unfolding digits
job_is_sent_on = (refl, refl)

pub job_is_got_once : JobIsGotOnce
unfolding digits number_at name_at card_at cards_at frame_of
job_is_got_once = (refl, refl, refl, refl)

pub stop_at_the_ack : StopAtTheAck
unfolding digits number_at name_at card_at cards_at frame_of
stop_at_the_ack = (refl, refl, refl)

pub stop_before_the_ack : StopBeforeTheAck
unfolding digits number_at name_at card_at cards_at frame_of
stop_before_the_ack = (refl, refl, refl)
