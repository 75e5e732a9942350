use Rattle.std.proofs.Common.{rules, ◌≡◌, take, arith}
use Rattle.std.proofs.lemmas.List.{take_all}
use Rattle.mas_types.specs.Sorted.{in_order}
use Rattle.mas_types.proofs.Sorting.{in_order_from_sort_by_key}
use Rattle.track_texts.specs.declared.index.TextGroup.{TextGroup}
use Rattle.track_texts.proofs.index.in_places.Goals as goal

pub returns : goal.returns
returns c =
    let sorted : c.sort_by_key.new.self.items ≡ in_order (λ (g : TextGroup). g.place) c.in_ok-placed.placed.items =
    in_order_from_sort_by_key (λ (g : TextGroup). g.place) _ _ c.in_ok-sort_by_key.ensures.sorted c.in_ok-sort_by_key.ensures.stable (λ a r q k. search rules) in
    let all : take c.loop-group.group-index c.as_slice-group-items.result.now ≡ c.as_slice-group-items.result.now = take_all _ _ (omega arith) in
    rw (all, c.as_slice-group-items.ensures.value, sorted, c.in_ok-placed.ensures) at c.loop-group.invariant
