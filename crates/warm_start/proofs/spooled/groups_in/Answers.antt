use Rattle.std.proofs.Common.{◌≡◌, List}
use Rattle.mas_types.specs.declared.ids.GroupNo.{GroupNo}
use Rattle.mas_types.specs.declared.queues.Owner.{Owner}
use Rattle.track_groups.specs.Places.{groups_of}
use Rattle.track_texts.specs.Index.{AreTextGroups}
use Rattle.warm_start.proofs.Spooling.{if_ok, groups_below}
use Rattle.warm_start.proofs.spooled.groups_in.Goals as goal

pub returns-clause-groups : goal.returns-clause-groups
returns-clause-groups c =
    if_ok (λ (gs : List GroupNo). (owners : List Owner) → AreTextGroups c.args.texts.now owners → gs ≡ groups_of c.args.thing owners) (λ (gs : List GroupNo). gs ≡ groups_of c.args.thing c.args.owners.now) _
    (λ gs are. are c.args.owners.now c.requires) c.groups_of.ensures

pub returns-clause-numbered : goal.returns-clause-numbered
returns-clause-numbered c = groups_below c.law_of_places.ensures.own c.args.owners.now
