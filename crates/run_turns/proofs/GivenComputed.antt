-- The worked examples of runs by their pieces, computed.
use Rattle.std.proofs.Common.{refl}
use Rattle.std.specs.Fmt.{digits}
use Rattle.run_turns.specs.GivenExamples.{PiecesAreWhatIsSaid, QueueRefuses, RunEndsInALine, RunGoesOnAfterAStop}

pub pieces_are_what_is_said : PiecesAreWhatIsSaid
unfolding digits
pieces_are_what_is_said = (refl, refl)

pub queue_refuses : QueueRefuses
queue_refuses = refl

pub run_goes_on_after_a_stop : RunGoesOnAfterAStop
unfolding digits
run_goes_on_after_a_stop = (refl, refl, refl)

pub run_ends_in_a_line : RunEndsInALine
run_ends_in_a_line = (refl, refl, refl)
