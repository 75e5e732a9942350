use Rattle.std.proofs.Common.{◌∙◌}
use Rattle.member_core.specs.Events.{renewed}
use Rattle.member_core.proofs.Loops.{on_first}
use Rattle.member_core.proofs.pair.renew_first.Goals as goal

pub returns : goal.returns
returns c = c.renew_at.ensures ∙ on_first (renewed c.args.kept) c.args.copies.now
