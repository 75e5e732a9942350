use Rattle.std.proofs.Common.{◌∙◌}
use Rattle.member_core.specs.Events.{has_next}
use Rattle.member_core.proofs.Loops.{on_first}
use Rattle.member_core.proofs.pair.next_first.Goals as goal

pub returns : goal.returns
returns c = c.next_at.ensures ∙ on_first (has_next c.args.own) c.args.copies.now
