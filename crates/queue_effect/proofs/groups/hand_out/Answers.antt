use Rattle.std.proofs.Common.{◌≡◌, List, ap}
use Rattle.mas_types.specs.declared.queues.Owner.{Owner}
use Rattle.mas_types.specs.Owners.{freed, handed_out, is_members}
use Rattle.track_groups.specs.Groups.{first_places, given}
use Rattle.queue_effect.proofs.Marking.{then_touched}
use Rattle.queue_effect.proofs.groups.hand_out.Goals as goal

pub returns-clause-value : goal.returns-clause-value
returns-clause-value c =
    let out : freed (is_members c.args.by) (given c.args.by (first_places c.args.thing c.args.count) c.args.tables.now.owners) ≡ handed_out c.args.by (first_places c.args.thing c.args.count) c.args.tables.now.owners =
    c.law_of_giving.ensures.all c.args.by (first_places c.args.thing c.args.count) c.args.tables.now.owners (c.law_of_giving.ensures.texts c.args.by c.args.thing c.args.count) in
    rw (c.free_members.ensures.value, c.give_groups.ensures.value) (ap (λ (gs : List Owner). record c.args.tables.now { owners = gs }) out)

pub returns-clause-touches : goal.returns-clause-touches
returns-clause-touches c = then_touched _ _ _ _ _ _ c.give_groups.ensures.touches c.give_groups.ensures.fit c.free_members.ensures.touches
