use Rattle.std.proofs.Common.{refl, arith}
use Rattle.queue_slots.proofs.Keys.{keys_start}
use Rattle.queue_slots.proofs.classes.class_keys.Goals as goal

pub loop-at-init : goal.loop-at-init
loop-at-init c = record { within = omega arith; wide = refl; keys = λ n. keys_start c.args.classes.now n }
