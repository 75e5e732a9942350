use Rattle.std.proofs.Common.{◌∙◌}
use Rattle.member_core.proofs.Loops.{unkept_is}
use Rattle.member_core.proofs.batches.has_unkept.Goals as goal

pub returns : goal.returns
returns c = c.is_any_unkept.ensures ∙ unkept_is c.args.m c.args.step c.args.batches.now
