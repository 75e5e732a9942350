use Rattle.run_turns.proofs.Computed.{deck_stops_anywhere, flight_is_settled, lock_is_free_in_the_middle, start_finds_alike, stopped_holder_holds}
use Rattle.run_turns.proofs.examples.examples_of_stops.Goals as goal

pub returns : goal.returns
returns c = record { deck = deck_stops_anywhere; settled = flight_is_settled; start = start_finds_alike; lock = lock_is_free_in_the_middle; holds = stopped_holder_holds }
