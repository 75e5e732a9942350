use Rattle.member_core.proofs.Computed.{away_may_lock, locked_reads_first, first_read_is_followed, second_read_is_followed, ready_gives_commands, batch_is_logged, first_log_is_followed, second_log_is_followed, first_opening_is_followed, written_batch_is_told, stopped_is_taken_over, crash_is_followed_by_start}
use Rattle.member_core.proofs.examples.examples_of_stages.Goals as goal

pub returns : goal.returns
returns c = record {
  away = away_may_lock;
  locked = locked_reads_first;
  first_read = first_read_is_followed;
  second_read = second_read_is_followed;
  ready = ready_gives_commands;
  batch = batch_is_logged;
  first_log = first_log_is_followed;
  second_log = second_log_is_followed;
  first_opening = first_opening_is_followed;
  written = written_batch_is_told;
  stopped = stopped_is_taken_over;
  crashed = crash_is_followed_by_start;
}
