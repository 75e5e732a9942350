use Rattle.std.proofs.Common.{◌≡◌, length}
use Rattle.job_queue.specs.Places.{ArePlaces, many}
use Rattle.job_queue.proofs.places.places_of.Given as goal

-- the places of the slots so far
abbrev pub invariant-loop-at : goal.invariant-loop-at
invariant-loop-at l = record {
  wide : length l.places ≡ many;
  placed : ArePlaces l.jobs l.at l.places;
}
