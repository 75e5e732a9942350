use Rattle.run_turns.proofs.Halts.{stopped_holders}
use Rattle.run_turns.proofs.Stopped.{no_stop_of_the_stopped, stopped_play_nothing, stops_are_noted}
use Rattle.run_turns.proofs.laws.law_of_stops.Goals as goal

pub returns : goal.returns
returns c = record { none = no_stop_of_the_stopped; noted = stops_are_noted; nothing = stopped_play_nothing; holders = stopped_holders }
