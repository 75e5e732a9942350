use Rattle.std.proofs.Common.{ap, ◌∙◌, not}
use Rattle.member_core.proofs.Loops.{none_flying}
use Rattle.member_core.proofs.batches.is_calm.Goals as goal

pub returns : goal.returns
returns c = ap not c.is_any_flying.ensures ∙ none_flying c.args.batches.now
