use Rattle.std.proofs.Common.{◌≡◌, ◌-◌, ◌++◌}
use Rattle.mas_types.specs.declared.queues.Owner.TheVariants as owner
use Rattle.mas_types.specs.Owners.{places, output_places}
use Rattle.model_queue.proofs.groups.push_places.Given as goal

-- the places so far, and those that are left
abbrev pub invariant-loop-place : goal.invariant-loop-place
invariant-loop-place l = l.places ++ places (λ p. owner.Output l.job l.index p) l.place (l.count - l.place) ≡ l.fn.places ++ output_places l.job l.index l.count
