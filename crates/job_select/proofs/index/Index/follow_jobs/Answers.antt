use Rattle.std.proofs.Common.{None, get_or, refl, arith}
use Rattle.std.proofs.lemmas.Option.{slice_get-get_or}
use Rattle.job_select.proofs.IndexLemmas.{follows_more, follows_all}
use Rattle.job_select.proofs.index.Index.follow_jobs.Goals as goal

pub loop-at-init : goal.loop-at-init
loop-at-init c = record { so_far = refl; same = c.requires.same; rest = refl }

pub follow_job-requires-clause-inside : goal.follow_job-requires-clause-inside
follow_job-requires-clause-inside c = omega (arith, c.loop-at.invariant.same, c.loop-at-test.true)

pub loop-at-preserved : goal.loop-at-preserved
loop-at-preserved c =
    let there = slice_get-get_or c.args.jobs.now c.loop-at.at None c.loop-at-test.true in
    follows_more c.loop-at.self.jobs c.follow_job.new.self.jobs c.args.jobs.now c.loop-at.self.outputs c.follow_job.new.self.outputs c.args.self.now.outputs c.loop-at.at
    (get_or c.args.jobs.now c.loop-at.at None) c.loop-at.invariant there (c.in_ok-follow_job.ensures.jobs (get_or c.args.jobs.now c.loop-at.at None) there) c.in_ok-follow_job.ensures.outputs

pub returns-clause-jobs : goal.returns-clause-jobs
returns-clause-jobs c = follows_all c.loop-at.self.jobs c.args.jobs.now c.loop-at.self.outputs c.args.self.now.outputs c.loop-at.at (omega arith) c.loop-at.invariant

pub returns-clause-outputs : goal.returns-clause-outputs
returns-clause-outputs c = c.loop-at.invariant.rest
