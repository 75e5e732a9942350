use Rattle.queue_tables.proofs.ToldLemmas.{tell_given, give, tell_alike, pages_alike, empty_told, sound_told}
use Rattle.queue_tables.proofs.laws.law_of_told_queues.Goals as goal

pub returns : goal.returns
returns c = record {
  tell = tell_given;
  give = give;
  alike = tell_alike;
  pages = λ pages. pages_alike pages c.law_of_checkpoints.ensures.tables c.law_of_checkpoints.ensures.queue;
  empty = empty_told c.law_of_empty_tables.ensures.queue;
  sound = sound_told c.law_of_sound_tables.ensures;
}
