use Rattle.std.proofs.Common.{◌*◌, ◌<◌, None, get_or, length, arith}
use Rattle.std.proofs.lemmas.Option.{slice_get-get_or}
use Rattle.ckpt_tables.specs.Shape.{outputs_a_page}
use Rattle.job_select.proofs.FollowLemmas.{on_page_first, on_page_more, on_page_all}
use Rattle.job_select.proofs.index.Index.follow_output_page.Goals as goal

pub loop-at-init : goal.loop-at-init
loop-at-init c = on_page_first c.args.self.now.outputs c.args.outputs.now c.args.self.now.jobs (outputs_a_page * c.args.page) c.requires.same

pub follow_output-requires-clause-inside : goal.follow_output-requires-clause-inside
follow_output-requires-clause-inside c = let size = c.loop-at.invariant.same in omega arith

pub loop-at-preserved : goal.loop-at-preserved
loop-at-preserved c =
    let inside : c.loop-at.at < length c.args.outputs.now = omega arith in
    let there = slice_get-get_or c.args.outputs.now c.loop-at.at None inside in
    on_page_more c.loop-at.self.outputs c.follow_output.new.self.outputs c.args.self.now.outputs c.args.outputs.now c.loop-at.self.jobs c.follow_output.new.self.jobs c.args.self.now.jobs (outputs_a_page * c.args.page) c.loop-at.at
    (get_or c.args.outputs.now c.loop-at.at None) c.loop-at.invariant there (c.in_ok-follow_output.ensures.outputs (get_or c.args.outputs.now c.loop-at.at None) there) c.in_ok-follow_output.ensures.jobs

pub returns-clause-same : goal.returns-clause-same
returns-clause-same c = c.loop-at.invariant.same

pub returns-clause-here : goal.returns-clause-here
returns-clause-here c = λ on at from lt.
    on_page_all c.loop-at.self.outputs c.args.self.now.outputs c.args.outputs.now c.loop-at.self.jobs c.args.self.now.jobs (outputs_a_page * c.args.page) c.loop-at.at c.loop-at.invariant at from (λ inside. omega (arith, lt, inside))

pub returns-clause-stays : goal.returns-clause-stays
returns-clause-stays c = c.loop-at.invariant.stays

pub returns-clause-jobs : goal.returns-clause-jobs
returns-clause-jobs c = c.loop-at.invariant.rest
