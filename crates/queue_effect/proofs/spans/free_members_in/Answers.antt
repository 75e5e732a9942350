use Rattle.mas_types.specs.Owners.{is_members}
use Rattle.queue_effect.proofs.SpanLemmas.{freed_in, freed_outside}
use Rattle.queue_effect.proofs.spans.free_members_in.Goals as goal

pub returns-clause-value : goal.returns-clause-value
returns-clause-value c = freed_in (is_members c.args.by) c.args.span c.args.owners.now _ c.requires c.free_member.ensures

pub returns-clause-rest : goal.returns-clause-rest
returns-clause-rest c = freed_outside (is_members c.args.by) (is_members c.args.by) c.args.span c.args.owners.now _ c.requires c.free_member.ensures
