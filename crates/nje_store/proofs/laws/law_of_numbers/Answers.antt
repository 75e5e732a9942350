use Rattle.nje_store.proofs.NumberLemmas.{numbers_are_got_once, numbers_are_sent_once}
use Rattle.nje_store.proofs.laws.law_of_numbers.Goals as goal

pub returns : goal.returns
returns c = record { got = numbers_are_got_once; sent = numbers_are_sent_once }
