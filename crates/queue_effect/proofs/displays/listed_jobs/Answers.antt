use Rattle.std.proofs.Common.{rules, ◌≡◌, take, arith}
use Rattle.std.proofs.lemmas.List.{take_all}
use Rattle.mas_types.specs.Sorted.{in_order}
use Rattle.lay_bytes.specs.declared.records.JobRec.{JobRec}
use Rattle.mas_types.proofs.Sorting.{in_order_from_sort_by_key}
use Rattle.queue_effect.proofs.displays.listed_jobs.Goals as goal

pub returns : goal.returns
returns c =
    let sorted : c.sort_by_key.new.self.items ≡ in_order (λ (r : JobRec). r.order) c.in_ok-records.records.items =
    in_order_from_sort_by_key (λ (r : JobRec). r.order) _ _ c.in_ok-sort_by_key.ensures.sorted c.in_ok-sort_by_key.ensures.stable (λ a r q k. search rules) in
    let all : take c.loop-job.job-index c.as_slice-job-items.result.now ≡ c.as_slice-job-items.result.now = take_all _ _ (omega arith) in
    rw (all, c.as_slice-job-items.ensures.value, sorted, c.in_ok-records.ensures) at c.loop-job.invariant
