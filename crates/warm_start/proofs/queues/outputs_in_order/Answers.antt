use Rattle.std.proofs.Common.{◌≡◌, ◌∙◌, rules, ap}
use Rattle.lay_bytes.specs.declared.records.OutRec.{OutRec}
use Rattle.mas_types.specs.Sorted.{in_order}
use Rattle.mas_types.proofs.Sorting.{in_order_from_sort_by_key}
use Rattle.warm_start.proofs.queues.outputs_in_order.Goals as goal

pub returns : goal.returns
returns c =
    let sorted : c.sort_by_key.new.self.items ≡ in_order (λ (r : OutRec). r.order) c.in_ok-records.records.items =
    in_order_from_sort_by_key (λ (r : OutRec). r.order) _ _ c.in_ok-sort_by_key.ensures.sorted c.in_ok-sort_by_key.ensures.stable (λ a r q k. search rules) in
    sorted ∙ ap (in_order (λ (r : OutRec). r.order)) c.in_ok-records.ensures
