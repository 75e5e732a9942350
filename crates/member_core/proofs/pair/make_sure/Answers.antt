use Rattle.std.proofs.Common.{ap, ◌∙◌}
use Rattle.mas_types.specs.Lists.{change_at}
use Rattle.member_core.specs.Events.{made_sure}
use Rattle.member_core.proofs.Loops.{on_copies_is}
use Rattle.member_core.proofs.pair.make_sure.Goals as goal

pub returns : goal.returns
returns c = c.sure_at-2.ensures ∙ ap (change_at 1 made_sure) c.sure_at.ensures ∙ on_copies_is made_sure made_sure c.args.copies.now
