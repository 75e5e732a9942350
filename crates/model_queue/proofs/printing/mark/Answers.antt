use Rattle.std.proofs.Common.{◌≡◌, None, Some, min, refl, sym, ◌∙◌}
use Rattle.mas_types.specs.declared.jobs.Output.{Output}
use Rattle.mas_types.specs.Queue.{total}
use Rattle.mas_types.specs.Row.{output_not_at}
use Rattle.mas_types.specs.Commands.Printing.{marked}
use Rattle.model_queue.proofs.printing.mark.Goals as goal

pub returns : goal.returns
returns c =
    let place = c.in-Some.ensures.some in
    let found = c.item-found.result.now in
    let same : place.item ≡ found = cc in
    let mine : output_not_at c.args.by (Some found) ≡ None = sym c.output_not_at.ensures ∙ c.in_default-output_not_at.is in
    rw (c.put_mark.ensures found c.item-found.ensures, place.found, place.changed (marked (λ (o : Output). min c.args.at (total o))), same, mine, c.marked_at-mark.ensures) refl
