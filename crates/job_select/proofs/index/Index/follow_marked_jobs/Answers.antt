use Rattle.std.proofs.Common.{◌≡◌, ℕ, ◌*◌, ◌+◌, ◌/◌, ap, sym, ◌∙◌, arith}
use Rattle.ckpt_tables.specs.Shape.{jobs_a_page}
use Rattle.page_marks.specs.Marks.{is_marked, job_page}
use Rattle.job_select.proofs.FollowLemmas.{up_first, up_next, up_all}
use Rattle.job_select.proofs.index.Index.follow_marked_jobs.Goals as goal

pub loop-page-init : goal.loop-page-init
loop-page-init c = up_first c.args.self.now.jobs c.args.jobs.now c.args.self.now.outputs (λ (at : ℕ). is_marked c.args.marks.now.pages (job_page at)) c.requires.same c.requires.behind

pub loop-page-preserved : goal.loop-page-preserved
loop-page-preserved c =
    let done = c.in_ok-follow_job_page.ensures in
    up_next c.loop-page.self.jobs c.follow_job_page.new.self.jobs c.args.jobs.now c.loop-page.self.outputs c.follow_job_page.new.self.outputs c.args.self.now.outputs (λ (at : ℕ). is_marked c.args.marks.now.pages (job_page at)) (jobs_a_page * c.loop-page.page) (jobs_a_page * (c.loop-page.page + 1))
    c.has-has_mark.result c.loop-page.invariant done.same (λ on at from lt. done.here on at from (omega (arith, lt))) done.stays done.outputs
    (λ off at from lt.
    let page : at / jobs_a_page ≡ c.loop-page.page = omega (arith, from, lt) in
    ap (λ (p : ℕ). is_marked c.args.marks.now.pages (3 + p)) page ∙ sym c.has-has_mark.ensures ∙ off)

pub returns-clause-jobs : goal.returns-clause-jobs
returns-clause-jobs c = up_all c.loop-page.self.jobs c.args.jobs.now c.loop-page.self.outputs c.args.self.now.outputs (λ (at : ℕ). is_marked c.args.marks.now.pages (job_page at)) (jobs_a_page * c.loop-page.page) c.loop-page.invariant (omega arith)

pub returns-clause-outputs : goal.returns-clause-outputs
returns-clause-outputs c = c.loop-page.invariant.rest
