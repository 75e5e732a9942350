use Rattle.run_turns.proofs.Tests.{denied_by_the_book, down_if_stopped, holder_is_taken_over, no_such_member, no_such_reset, only_holders_free, only_stopped_are_reset, sayers_are_right, up_is_not_reset}
use Rattle.run_turns.proofs.laws.law_of_tests.Goals as goal

pub returns : goal.returns
returns c = record {
  members = no_such_member;
  down = down_if_stopped;
  resets = no_such_reset;
  up = up_is_not_reset;
  takeover = holder_is_taken_over;
  stopped = only_stopped_are_reset;
  frees = only_holders_free;
  tries = denied_by_the_book;
  sayers = sayers_are_right;
}
