use Rattle.std.proofs.Common.{◌∙◌}
use Rattle.member_core.proofs.Loops.{kept_is}
use Rattle.member_core.proofs.batches.has_kept.Goals as goal

pub returns : goal.returns
returns c = c.is_any_kept.ensures ∙ kept_is c.args.m c.args.step c.args.batches.now
