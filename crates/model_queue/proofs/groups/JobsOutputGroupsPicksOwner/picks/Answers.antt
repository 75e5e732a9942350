use Rattle.std.proofs.Common.{sym, ◌∙◌}
use Rattle.mas_types.specs.Queue.{has_key, is_of}
use Rattle.model_queue.proofs.Listed.{any-filter}
use Rattle.model_queue.proofs.groups.JobsOutputGroupsPicksOwner.picks.Goals as goal

pub returns-in-Output : goal.returns-in-Output
returns-in-Output c = rw c.in-Output.is (c.is_any.ensures ∙ sym (any-filter (has_key c.in-Output.job c.in-Output.index) (is_of c.args.self.now.of) c.args.self.now.outputs.now))
