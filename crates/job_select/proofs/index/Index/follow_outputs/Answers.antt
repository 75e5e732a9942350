use Rattle.std.proofs.Common.{None, get_or, refl, arith}
use Rattle.std.proofs.lemmas.Option.{slice_get-get_or}
use Rattle.job_select.proofs.IndexLemmas.{follows_more, follows_all}
use Rattle.job_select.proofs.index.Index.follow_outputs.Goals as goal

pub loop-at-init : goal.loop-at-init
loop-at-init c = record { so_far = refl; same = c.requires.same; rest = refl }

pub follow_output-requires-clause-inside : goal.follow_output-requires-clause-inside
follow_output-requires-clause-inside c = omega (arith, c.loop-at.invariant.same, c.loop-at-test.true)

pub loop-at-preserved : goal.loop-at-preserved
loop-at-preserved c =
    let there = slice_get-get_or c.args.outputs.now c.loop-at.at None c.loop-at-test.true in
    follows_more c.loop-at.self.outputs c.follow_output.new.self.outputs c.args.outputs.now c.loop-at.self.jobs c.follow_output.new.self.jobs c.args.self.now.jobs c.loop-at.at
    (get_or c.args.outputs.now c.loop-at.at None) c.loop-at.invariant there (c.in_ok-follow_output.ensures.outputs (get_or c.args.outputs.now c.loop-at.at None) there) c.in_ok-follow_output.ensures.jobs

pub returns-clause-outputs : goal.returns-clause-outputs
returns-clause-outputs c = follows_all c.loop-at.self.outputs c.args.outputs.now c.loop-at.self.jobs c.args.self.now.jobs c.loop-at.at (omega arith) c.loop-at.invariant

pub returns-clause-jobs : goal.returns-clause-jobs
returns-clause-jobs c = c.loop-at.invariant.rest
