use Rattle.std.proofs.Common.{append_assoc}
use Rattle.cmd_report.proofs.displays.job_line.Goals as goal

pub returns : goal.returns
returns c =
    rw (c.in_ok-push_use.ensures, c.in_ok-push_phase.ensures, c.in_ok-push-5.ensures.ok, c.in_ok-push_digits.ensures, c.in_ok-push-4.ensures.ok, c.in_ok-push-3.ensures.ok, c.in_ok-push-2.ensures.ok, c.in_ok-push_name.ensures, c.in_ok-push.ensures.ok, c.in_ok-push_key.ensures, c.new-line.ensures)
    (simp append_assoc)
