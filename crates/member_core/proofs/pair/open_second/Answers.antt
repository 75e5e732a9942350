use Rattle.std.proofs.Common.{◌∙◌}
use Rattle.member_core.specs.Events.{opened}
use Rattle.member_core.proofs.Loops.{on_second}
use Rattle.member_core.proofs.pair.open_second.Goals as goal

pub returns : goal.returns
returns c = c.open_at.ensures ∙ on_second (opened c.args.own) c.args.copies.now
