use Rattle.std.proofs.Common.{◌≡◌, ◌∙◌, sym, ap, ◌≤◌, Some, find}
use Rattle.mas_types.specs.declared.jobs.Job.{Job}
use Rattle.mas_types.specs.Limits.{members_most}
use Rattle.mas_types.specs.Queue.{has_number}
use Rattle.cmd_report.proofs.Pieces.{find_holds}
use Rattle.cmd_report.proofs.displays.show.Goals as goal

pub push_job-requires : goal.push_job-requires
push_job-requires c =
    let found : find (has_number c.in-Job.number) c.args.queue.now.jobs ≡ Some c.in-Some.job.now = ap (find (has_number c.in-Job.number)) (sym c.as_slice-in-Job.ensures) ∙ sym c.in-Some.ensures in
    find_holds (λ (j : Job). j.busy.0 ≤ members_most) (has_number c.in-Job.number) c.args.queue.now.jobs c.in-Some.job.now c.requires.jobs found
