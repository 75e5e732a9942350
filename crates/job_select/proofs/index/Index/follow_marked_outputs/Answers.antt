use Rattle.std.proofs.Common.{◌≡◌, ℕ, ◌*◌, ◌+◌, ◌/◌, ap, sym, ◌∙◌, arith}
use Rattle.ckpt_tables.specs.Shape.{outputs_a_page}
use Rattle.page_marks.specs.Marks.{is_marked}
use Rattle.job_select.proofs.FollowLemmas.{up_first, up_next, up_all}
use Rattle.job_select.proofs.index.Index.follow_marked_outputs.Goals as goal

pub loop-page-init : goal.loop-page-init
loop-page-init c = up_first c.args.self.now.outputs c.args.outputs.now c.args.self.now.jobs (λ (at : ℕ). is_marked c.args.marks.now.pages (c.args.first + at / outputs_a_page)) c.requires.same c.requires.behind

pub loop-page-preserved : goal.loop-page-preserved
loop-page-preserved c =
    let done = c.in_ok-follow_output_page.ensures in
    up_next c.loop-page.self.outputs c.follow_output_page.new.self.outputs c.args.outputs.now c.loop-page.self.jobs c.follow_output_page.new.self.jobs c.args.self.now.jobs (λ (at : ℕ). is_marked c.args.marks.now.pages (c.args.first + at / outputs_a_page)) (outputs_a_page * c.loop-page.page) (outputs_a_page * (c.loop-page.page + 1))
    c.has-has_mark.result c.loop-page.invariant done.same (λ on at from lt. done.here on at from (omega (arith, lt))) done.stays done.jobs
    (λ off at from lt.
    let page : at / outputs_a_page ≡ c.loop-page.page = omega (arith, from, lt) in
    ap (λ (p : ℕ). is_marked c.args.marks.now.pages (c.args.first + p)) page ∙ sym c.has-has_mark.ensures ∙ off)

pub returns-clause-outputs : goal.returns-clause-outputs
returns-clause-outputs c = up_all c.loop-page.self.outputs c.args.outputs.now c.loop-page.self.jobs c.args.self.now.jobs (λ (at : ℕ). is_marked c.args.marks.now.pages (c.args.first + at / outputs_a_page)) (outputs_a_page * c.loop-page.page) c.loop-page.invariant (omega arith)

pub returns-clause-jobs : goal.returns-clause-jobs
returns-clause-jobs c = c.loop-page.invariant.rest
