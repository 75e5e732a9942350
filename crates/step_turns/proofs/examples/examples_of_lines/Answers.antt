use Rattle.step_turns.proofs.LineComputed.{ack_is_given, bad_card_closes_the_line, frame_is_given, full_spool_closes_the_line, gap_is_passed_over, gone_text_closes_the_line, job_after_ack, job_comes_twice, job_comes_under_lock, job_is_sent, job_is_there, job_stays, last_number_is_kept, lost_line_keeps_the_job, lost_line_takes_nothing, lost_volume_closes_the_line, other_member_gets_it, unknown_node_closes_the_line}
use Rattle.step_turns.proofs.examples.examples_of_lines.Goals as goal

pub returns : goal.returns
returns c = record {
  sent = job_is_sent;
  stays = job_stays;
  frame = frame_is_given;
  last = last_number_is_kept;
  twice = job_comes_twice;
  ack = ack_is_given;
  there = job_is_there;
  under_lock = job_comes_under_lock;
  after_ack = job_after_ack;
  gap = gap_is_passed_over;
  card = bad_card_closes_the_line;
  node = unknown_node_closes_the_line;
  full = full_spool_closes_the_line;
  volume = lost_volume_closes_the_line;
  other = other_member_gets_it;
  nothing = lost_line_takes_nothing;
  keeps = lost_line_keeps_the_job;
  text = gone_text_closes_the_line;
}
