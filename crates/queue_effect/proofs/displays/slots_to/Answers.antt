use Rattle.queue_effect.proofs.Loops.{used_front}
use Rattle.queue_effect.proofs.displays.slots_to.Goals as goal

pub returns : goal.returns
returns g c = rw c.min.ensures (used_front c.args.slots.now c.args.end c.requires)
