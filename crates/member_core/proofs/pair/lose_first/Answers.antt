use Rattle.std.proofs.Common.{◌∙◌}
use Rattle.member_core.specs.Events.{lost}
use Rattle.member_core.proofs.Loops.{on_first}
use Rattle.member_core.proofs.pair.lose_first.Goals as goal

pub returns : goal.returns
returns c = c.lose_copy.ensures ∙ on_first (lost) c.args.copies.now
