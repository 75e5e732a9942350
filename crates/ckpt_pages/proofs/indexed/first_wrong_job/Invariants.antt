use Rattle.std.proofs.Common.{◌≡◌, [], take, drop}
use Rattle.ckpt_pages.specs.Keys.{AreJobKeys}
use Rattle.ckpt_pages.specs.Sound.{first_wrong, is_wrong_job_slot}
use Rattle.ckpt_pages.proofs.indexed.first_wrong_job.Given as goal

abbrev pub invariant-loop-i : goal.invariant-loop-i
invariant-loop-i l = record {
  first : first_wrong (is_wrong_job_slot l.tables) (take l.i l.slots) l.i (drop l.i l.slots) ≡ first_wrong (is_wrong_job_slot l.tables) [] 0 l.slots;
  keys : AreJobKeys l.jobs (take l.i l.slots);
}
