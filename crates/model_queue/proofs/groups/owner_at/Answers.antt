use Rattle.std.proofs.Common.{refl}
use Rattle.mas_types.proofs.ListLemmas.{drop-at}
use Rattle.model_queue.proofs.groups.owner_at.Goals as goal

pub returns-then-next-len : goal.returns-then-next-len
returns-then-next-len c = rw (drop-at c.args.new.now c.args.next c.item.result.now c.item.ensures) refl
