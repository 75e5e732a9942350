use Rattle.mas_types.specs.Owners.{is_members}
use Rattle.queue_effect.proofs.SpanLemmas.{given_in, given_outside, left_in, room_in}
use Rattle.queue_effect.proofs.spans.give_in.Goals as goal

pub give_to-requires-clause-room : goal.give_to-requires-clause-room
give_to-requires-clause-room c = room_in c.args.span c.args.owners.now (is_members c.args.by) c.args.count c.requires.holds c.requires.room

pub returns-clause-value : goal.returns-clause-value
returns-clause-value c = given_in c.args.by c.args.thing c.args.count c.args.span c.args.owners.now _ c.requires.holds c.give_to.ensures.owners

pub returns-clause-left : goal.returns-clause-left
returns-clause-left c = left_in c.args.span c.args.owners.now (is_members c.args.by) c.args.count c.requires.holds _ c.args.count c.give_to.ensures.left

pub returns-clause-rest : goal.returns-clause-rest
returns-clause-rest c = given_outside c.args.by c.args.thing c.args.count c.args.span c.args.owners.now _ c.requires.holds c.give_to.ensures.owners
