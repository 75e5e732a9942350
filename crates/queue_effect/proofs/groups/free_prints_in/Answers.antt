use Rattle.std.specs.Prelude.{filter}
use Rattle.mas_types.specs.Owners.{is_of_any}
use Rattle.mas_types.specs.Queue.{is_of}
use Rattle.queue_effect.specs.Spans.{is_jobs_print}
use Rattle.queue_effect.proofs.GroupLemmas.{print_of}
use Rattle.queue_effect.proofs.SpanLemmas.{freed_put, stays_outside}
use Rattle.queue_effect.proofs.groups.free_prints_in.Goals as goal

pub returns-clause-value : goal.returns-clause-value
returns-clause-value c os are =
    freed_put (is_of_any (filter (is_of c.args.job) os)) (is_jobs_print c.args.job) (print_of c.args.job os) c.args.span c.args.owners.now _ c.requires (c.free_owners.ensures.value os are)

pub returns-clause-rest : goal.returns-clause-rest
returns-clause-rest c = stays_outside c.args.span c.args.owners.now _ c.requires.order c.requires.end c.free_owners.ensures.length
