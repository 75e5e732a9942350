use Rattle.std.proofs.Common.{◌≡◌, ◌∙◌, List, map, ap}
use Rattle.mas_types.specs.declared.ids.GroupNo.{GroupNo}
use Rattle.mas_types.specs.declared.queues.Owner.{Owner}
use Rattle.mas_types.specs.Sorted.{in_order}
use Rattle.track_groups.specs.Places.{groups_of}
use Rattle.track_texts.specs.declared.index.TextGroup.{TextGroup}
use Rattle.track_texts.specs.Index.{AreTextGroups}
use Rattle.track_texts.proofs.IndexLemmas.{if_ok, groups_in_order}
use Rattle.track_texts.proofs.index.TextGroups.groups_of.Goals as goal

pub returns : goal.returns
returns c =
    let ordered = λ (xs : List TextGroup). map (λ (g : TextGroup). g.group) (in_order (λ (g : TextGroup). g.place) xs) in
    if_ok (λ (gs : List GroupNo). gs ≡ ordered c.found.result.now) (λ (gs : List GroupNo). (owners : List Owner) → AreTextGroups c.args.self.now owners → gs ≡ groups_of c.args.thing owners) c.in_places.result
    (λ gs is owners are. is ∙ ap ordered (c.found.ensures ∙ are c.args.thing) ∙ groups_in_order c.args.thing owners) c.in_places.ensures
