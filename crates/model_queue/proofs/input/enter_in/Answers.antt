use Rattle.std.proofs.Common.{◌≡◌, sym}
use Rattle.mas_types.specs.Queue.{has_number}
use Rattle.model_queue.specs.Entered.{entered_job}
use Rattle.model_queue.proofs.Places.{change_nothing, nothing}
use Rattle.model_queue.proofs.input.enter_in.Goals as goal

pub returns-in_default : goal.returns-in_default
returns-in_default c =
    sym (change_nothing (has_number c.args.job) (entered_job c.args.own.now c.args.text) c.args.jobs.now (nothing c.first_place.result c.in_default.is c.first_place.ensures.none))

pub returns : goal.returns
returns c =
    let place = c.in-Some.ensures.some in
    let same : c.item_mut.result.now ≡ place.item = cc in
    rw (c.put_entered.ensures, same) (sym (place.changed (entered_job c.args.own.now c.args.text)))
