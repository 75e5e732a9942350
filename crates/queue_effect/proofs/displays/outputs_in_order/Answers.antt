use Rattle.std.proofs.Common.{rules, ◌≡◌, take, arith}
use Rattle.std.proofs.lemmas.List.{take_all}
use Rattle.mas_types.specs.Sorted.{in_order}
use Rattle.lay_bytes.specs.declared.records.OutRec.{OutRec}
use Rattle.mas_types.proofs.Sorting.{in_order_from_sort_by_key}
use Rattle.queue_effect.proofs.displays.outputs_in_order.Goals as goal

pub returns : goal.returns
returns c =
    let sorted : c.sort_by_key.new.self.items ≡ in_order (λ (r : OutRec). r.order) c.args.records.items =
    in_order_from_sort_by_key (λ (r : OutRec). r.order) _ _ c.in_ok-sort_by_key.ensures.sorted c.in_ok-sort_by_key.ensures.stable (λ a r q k. search rules) in
    let all : take c.loop-output.output-index c.as_slice-output-items.result.now ≡ c.as_slice-output-items.result.now = take_all _ _ (omega arith) in
    rw (all, c.as_slice-output-items.ensures.value, sorted) at c.loop-output.invariant
