use Rattle.std.proofs.Common.{◌≡◌, [], take, drop}
use Rattle.ckpt_pages.specs.Sound.{first_wrong, is_wrong_job_slot}
use Rattle.ckpt_pages.proofs.faults.first_wrong_job.Given as goal

abbrev pub invariant-loop-i : goal.invariant-loop-i
invariant-loop-i l = first_wrong (is_wrong_job_slot l.tables) (take l.i l.tables.jobs) l.i (drop l.i l.tables.jobs) ≡ first_wrong (is_wrong_job_slot l.tables) [] 0 l.tables.jobs
