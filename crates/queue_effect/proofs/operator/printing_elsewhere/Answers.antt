use Rattle.std.proofs.Common.{◌&&◌}
use Rattle.std.specs.Prelude.{not}
use Rattle.mas_types.specs.declared.jobs.Output.{Output}
use Rattle.mas_types.specs.Ids.{is_somebody, same_member}
use Rattle.mas_types.specs.Queue.{is_of}
use Rattle.queue_effect.proofs.Changing.{found_outputs}
use Rattle.queue_effect.proofs.operator.printing_elsewhere.Goals as goal

pub returns-clause-some : goal.returns-clause-some
returns-clause-some c =
    found_outputs c.args.tables.now (λ (o : Output). is_of c.args.job o && is_somebody o.busy && not (same_member o.busy c.args.by)) c.find_elsewhere.result (rw c.as_slice.ensures at c.find_elsewhere.ensures.some)
