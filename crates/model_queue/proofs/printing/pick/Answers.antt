use Rattle.std.proofs.Common.{◌≡◌, None, refl, sym, ◌∙◌}
use Rattle.mas_types.specs.Queue.{printing_at}
use Rattle.mas_types.specs.Commands.Printing.{in_use, picked_by}
use Rattle.model_queue.proofs.printing.pick.Goals as goal

pub returns : goal.returns
returns c =
    let place = c.in-Some-place_for_printer.ensures.some in
    let free : in_use c.args.by (printing_at c.args.queue.now c.args.by) ≡ None = sym c.printing_already.ensures ∙ c.in_default.is in
    let same : c.item_mut-output.result.now ≡ place.item = cc in
    rw (same, free, place.found, place.changed (picked_by c.args.by)) refl
