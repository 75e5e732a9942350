use Rattle.queue_laws.proofs.Computed.{mark_is_shown, reset_keeps_the_mark, marks_move_at_their_member, done_waits_for_the_last_line, purged_job_leaves_nothing}
use Rattle.queue_laws.proofs.examples.examples_of_printing.Goals as goal

pub returns : goal.returns
returns c = record {
  shown = mark_is_shown;
  reset = reset_keeps_the_mark;
  moved = marks_move_at_their_member;
  last_line = done_waits_for_the_last_line;
  nothing_left = purged_job_leaves_nothing;
}
