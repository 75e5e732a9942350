use Rattle.std.proofs.Common.{sym}
use Rattle.mas_types.specs.Owners.{is_free}
use Rattle.queue_effect.proofs.SpanLemmas.{min_in, none_in, on_err, on_ok, some_in, taken_in, taken_outside}
use Rattle.queue_effect.proofs.spans.take_in.Goals as goal

pub returns-clause-owners : goal.returns-clause-owners
returns-clause-owners c = taken_in c.args.by c.args.want c.args.span c.args.owners.now _ c.requires c.take.ensures.owners

pub returns-clause-count : goal.returns-clause-count
returns-clause-count c = rw (sym (min_in c.args.span c.args.owners.now is_free c.args.want c.requires)) c.take.ensures.count

pub returns-clause-free : goal.returns-clause-free
returns-clause-free c = on_ok c.take.result (some_in c.args.span c.args.owners.now is_free c.args.want c.requires) c.take.ensures.free

pub returns-clause-full : goal.returns-clause-full
returns-clause-full c = on_err c.take.result (none_in c.args.span c.args.owners.now is_free c.args.want c.requires) c.take.ensures.full

pub returns-clause-rest : goal.returns-clause-rest
returns-clause-rest c = taken_outside c.args.by c.args.want c.args.span c.args.owners.now _ c.requires c.take.ensures.owners
