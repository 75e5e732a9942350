-- The job that a member runs, or converts.
use Rattle.std.specs.Prelude.{Bool, ◌&&◌, if◌then◌else◌, Option, find}
use Rattle.mas_types.specs.declared.ids.MemberId.{MemberId}
use Rattle.mas_types.specs.declared.jobs.Job.{Job}
use Rattle.mas_types.specs.declared.queues.Queue.{Queue}
use Rattle.mas_types.specs.Queue.{in_convert, in_execute, is_busy_at}

abbrev pub is_at_work : Bool → MemberId → Job → Bool
is_at_work runs by j = (if runs then in_execute j.phase else in_convert j.phase) && is_busy_at by j

abbrev pub job_at_work : Bool → Queue → MemberId → Option Job
job_at_work runs Q by = find (is_at_work runs by) Q.jobs
