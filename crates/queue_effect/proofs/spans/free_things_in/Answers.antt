use Rattle.track_groups.specs.Groups.{is_things}
use Rattle.queue_effect.proofs.SpanLemmas.{freed_in, freed_outside}
use Rattle.queue_effect.proofs.spans.free_things_in.Goals as goal

pub returns-clause-value : goal.returns-clause-value
returns-clause-value c = freed_in (is_things c.args.thing) c.args.span c.args.owners.now _ c.requires c.free_thing.ensures

pub returns-clause-rest : goal.returns-clause-rest
returns-clause-rest c = freed_outside (is_things c.args.thing) (is_things c.args.thing) c.args.span c.args.owners.now _ c.requires c.free_thing.ensures
