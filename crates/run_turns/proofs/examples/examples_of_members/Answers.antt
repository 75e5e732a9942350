use Rattle.run_turns.proofs.Computed.{dormant_once, free_by_another, hold_of_one, lock_and_busy, member_not_up, no_such_member, resets_refused, restart_or_purge, spent_hold_frees, stop_of_none, takeover_frees, two_members}
use Rattle.run_turns.proofs.examples.examples_of_members.Goals as goal

pub returns : goal.returns
returns c = record {
  busy = lock_and_busy;
  down = member_not_up;
  takeover = takeover_frees;
  refused = resets_refused;
  restart = restart_or_purge;
  hold = hold_of_one;
  spent = spent_hold_frees;
  dormant = dormant_once;
  none = no_such_member;
  two = two_members;
  free = free_by_another;
  stop = stop_of_none;
}
