use Rattle.mas_types.specs.declared.queues.Owner.TheVariants as owner
use Rattle.model_queue.proofs.Handing.{places_more}
use Rattle.model_queue.proofs.groups.push_places.Goals as goal

pub loop-place-preserved : goal.loop-place-preserved
loop-place-preserved c =
    rw c.in_ok-push.ensures.ok (places_more (λ p. owner.Output c.args.job c.args.index p) c.loop-place.place c.args.count c.loop-place.places _ c.loop-place-test.true c.loop-place.invariant)
