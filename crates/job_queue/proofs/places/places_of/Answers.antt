use Rattle.std.proofs.Common.{◌%◌, get_or, ap, ◌∙◌, Some, None}
use Rattle.std.proofs.lemmas.List.{length-set}
use Rattle.std.proofs.lemmas.Option.{slice_get-get_or}
use Rattle.job_queue.specs.Places.{many, taken as taken_lem}
use Rattle.job_queue.proofs.PlaceLemmas.{places_more, places_stay}
use Rattle.job_queue.proofs.places.places_of.Goals as goal
use Rattle.job_queue.proofs.places.places_of.Goals.{in-Some, in_default}

pub loop-at-preserved : goal.loop-at-preserved
loop-at-preserved c =
    let jobs = c.args.jobs.now in
    let at = c.loop-at.at in
    let so_far = c.loop-at.invariant in
    elim c.match-slot.branch [
      | in-Some w ↦
          let here = slice_get-get_or jobs at None c.loop-at-test.true ∙ ap Some w.in-Some.is in
          rw (w.places-is, w.taken.ensures) (record {
            wide = length-set c.loop-at.places (w.in-Some.job.number.0 % many) (taken_lem (get_or c.loop-at.places (w.in-Some.job.number.0 % many) 0) at) ∙ so_far.wide;
            placed = places_more jobs at c.loop-at.places w.in-Some.job here so_far.wide so_far.placed;
          })
      | in_default w ↦
          let here = slice_get-get_or jobs at None c.loop-at-test.true ∙ ap Some w.in_default.is in
          rw w.places-is (record { wide = so_far.wide; placed = places_stay jobs at c.loop-at.places here so_far.placed })
    ]
