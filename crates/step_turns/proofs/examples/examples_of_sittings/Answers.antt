use Rattle.step_turns.proofs.Computed.{command_is_one_sitting, copies_are_printed, deck_is_two_sittings, deck_spends_the_lock, deck_under_lock, full_batch_is_written, full_spool_closes_the_deck, full_spool_refuses_the_unit, lost_printer_refuses_the_unit, lost_text_refuses_the_unit, lost_volume_drops_the_deck, lost_volume_refuses_the_unit, null_job_is_three_sittings, one_unit_is_done, others_act_between, spent_hold_is_given_up, spent_hold_under_lock}
use Rattle.step_turns.proofs.examples.examples_of_sittings.Goals as goal

pub returns : goal.returns
returns c = record {
  deck = deck_is_two_sittings;
  deck_under_lock = deck_under_lock;
  deck_spends = deck_spends_the_lock;
  deck_full = full_spool_closes_the_deck;
  deck_lost = lost_volume_drops_the_deck;
  command = command_is_one_sitting;
  between = others_act_between;
  null = null_job_is_three_sittings;
  one = one_unit_is_done;
  hold = spent_hold_is_given_up;
  hold_under_lock = spent_hold_under_lock;
  batch = full_batch_is_written;
  copies = copies_are_printed;
  full = full_spool_refuses_the_unit;
  volume = lost_volume_refuses_the_unit;
  text = lost_text_refuses_the_unit;
  printer = lost_printer_refuses_the_unit;
}
