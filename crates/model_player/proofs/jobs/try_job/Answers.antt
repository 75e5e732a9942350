use Rattle.std.proofs.Common.{◌≡◌, Some, find, sym}
use Rattle.mas_types.specs.Sound.{IsSoundJob}
use Rattle.cmd_report.proofs.Pieces.{find_holds}
use Rattle.model_player.specs.Jobs.{is_at_work}
use Rattle.model_player.proofs.jobs.try_job.Goals as goal

pub outcome_at-requires : goal.outcome_at-requires
outcome_at-requires c =
    let S = c.args.spool.now.queues in
    let found : find (is_at_work c.args.runs c.args.by) S.queue.jobs ≡ Some c.in-Some.job.now = sym c.in-Some.ensures in
    (find_holds (IsSoundJob S.queue.config) (is_at_work c.args.runs c.args.by) S.queue.jobs c.in-Some.job.now c.requires.queue.jobs found).text
