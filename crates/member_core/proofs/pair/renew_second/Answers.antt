use Rattle.std.proofs.Common.{◌∙◌}
use Rattle.member_core.specs.Events.{renewed}
use Rattle.member_core.proofs.Loops.{on_second}
use Rattle.member_core.proofs.pair.renew_second.Goals as goal

pub returns : goal.returns
returns c = c.renew_at.ensures ∙ on_second (renewed c.args.kept) c.args.copies.now
