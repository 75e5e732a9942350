use Rattle.std.proofs.Common.{◌∙◌}
use Rattle.member_core.specs.Events.{opened}
use Rattle.member_core.proofs.Loops.{on_first}
use Rattle.member_core.proofs.pair.open_first.Goals as goal

pub returns : goal.returns
returns c = c.open_at.ensures ∙ on_first (opened c.args.own) c.args.copies.now
