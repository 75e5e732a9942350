use Rattle.std.proofs.Common.{◌∙◌}
use Rattle.member_core.specs.Events.{lost}
use Rattle.member_core.proofs.Loops.{on_second}
use Rattle.member_core.proofs.pair.lose_second.Goals as goal

pub returns : goal.returns
returns c = c.lose_copy.ensures ∙ on_second (lost) c.args.copies.now
