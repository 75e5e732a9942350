use Rattle.queue_laws.proofs.Computed.{fifty_comments_take_one_group, fifty_one_comments_take_two_groups, spool_full_drops_the_deck, dropped_group_is_free, second_deck_is_on_second_volume, seventeenth_deck_is_refused, numbers_begin_again}
use Rattle.queue_laws.proofs.examples.examples_of_decks.Goals as goal

pub returns : goal.returns
returns c = record {
  one_group = fifty_comments_take_one_group;
  two_groups = fifty_one_comments_take_two_groups;
  spool_full = spool_full_drops_the_deck;
  dropped = dropped_group_is_free;
  second_volume = second_deck_is_on_second_volume;
  jobs_full = seventeenth_deck_is_refused;
  numbers = numbers_begin_again;
}
