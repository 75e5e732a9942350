use Rattle.std.proofs.Common.{◌≡◌, ◌-◌, ◌++◌}
use Rattle.mas_types.specs.declared.queues.Owner.TheVariants as owner
use Rattle.mas_types.specs.Owners.{places, deck_places}
use Rattle.model_queue.proofs.groups.deck_places.Given as goal

-- the places so far, and those that are left
abbrev pub invariant-loop-place : goal.invariant-loop-place
invariant-loop-place l = l.places ++ places (λ p. owner.Deck l.job p) l.place (l.count - l.place) ≡ deck_places l.job l.count
