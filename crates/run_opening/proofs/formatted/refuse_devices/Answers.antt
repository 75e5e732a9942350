use Rattle.run_opening.proofs.RefusalLemmas.{all_large, size_of, some_small}
use Rattle.run_opening.proofs.WarmLemmas.{not_text}
use Rattle.run_opening.proofs.formatted.refuse_devices.Goals as goal

pub returns-in-Ok-clause-none : goal.returns-in-Ok-clause-none
returns-in-Ok-clause-none g c =
    let l = rw c.bytes_for-needed.ensures at c.in-Ok.ensures.large in
    all_large (g.P.Plant.view c.args.plant.now) c.args.config.now l.0 l.1 c.in-Ok.ensures.roomy

pub returns-in-Err-clause-refused : goal.returns-in-Err-clause-refused
returns-in-Err-clause-refused g c =
    let small = rw c.bytes_for-needed.ensures at c.in-Err.ensures.small in
    rw c.status_of_start.ensures (some_small (g.P.Plant.view c.args.plant.now) c.args.config.now c.in-Err.why small)

pub returns-in-Err-clause-small : goal.returns-in-Err-clause-small
returns-in-Err-clause-small g c =
    let small = rw c.bytes_for-needed.ensures at c.in-Err.ensures.small in
    rw c.status_of_start.ensures (size_of (g.P.Plant.view c.args.plant.now) c.args.config.now c.in-Err.why small)

pub returns-in-Err-clause-no_text : goal.returns-in-Err-clause-no_text
returns-in-Err-clause-no_text g c = rw c.status_of_start.ensures (not_text c.in-Err.why)
