use Rattle.std.proofs.Common.{◌-◌, ◌%◌, get_or, arith}
use Rattle.job_queue.specs.Places.{many}
use Rattle.job_queue.proofs.PlaceLemmas.{free_place, only_place, place_within}
use Rattle.job_queue.proofs.places.job_numbered.Goals as goal

pub returns-then-place-eq0 : goal.returns-then-place-eq0
returns-then-place-eq0 c =
    let it = c.args.by_number.now in
    let place = c.args.job.0 % many in
    free_place it.jobs.now c.args.job (get_or it.places place 0) (it.placed place (place_within c.args.job.0)) c.if-place-eq0.true

pub returns : goal.returns
returns c =
    let it = c.args.by_number.now in
    let place = c.args.job.0 % many in
    rw c.only_at.ensures
    (only_place it.jobs.now c.args.job (get_or it.places place 0) (get_or it.places place 0 - 1) (it.placed place (place_within c.args.job.0)) (let some = c.if-place-eq0.false in omega arith) c.if-place.false)
