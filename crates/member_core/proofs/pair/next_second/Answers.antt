use Rattle.std.proofs.Common.{◌∙◌}
use Rattle.member_core.specs.Events.{has_next}
use Rattle.member_core.proofs.Loops.{on_second}
use Rattle.member_core.proofs.pair.next_second.Goals as goal

pub returns : goal.returns
returns c = c.next_at.ensures ∙ on_second (has_next c.args.own) c.args.copies.now
