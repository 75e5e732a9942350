use Rattle.std.proofs.Common.{◌≡◌, ◌∙◌, [], length, drop, ap, append-nil, arith}
use Rattle.std.proofs.lemmas.List.{drop_all}
use Rattle.model_queue.proofs.GroupLemmas.{length-places_of_outputs}
use Rattle.model_queue.proofs.groups.places_of_outputs.Goals as goal

pub returns-clause-groups : goal.returns-clause-groups
returns-clause-groups c =
    let i = c.loop-spec.spec-index in
    let specs = c.as_slice-spec-items.result.now in
    let over : drop i specs ≡ [] = drop_all i specs (omega arith) in
    let rest = rw (over, append-nil c.loop-spec.places) at c.loop-spec.invariant.rest in
    let same : specs ≡ c.args.specs.now = c.as_slice-spec-items.ensures in
    rw (← same) (ap length rest ∙ length-places_of_outputs c.args.job 1 specs)
