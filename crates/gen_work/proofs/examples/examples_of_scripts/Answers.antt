use Rattle.std.proofs.Common.{refl}
use Rattle.std.specs.Fmt.{digits}
use Rattle.gen_work.specs.Examples.{ScriptsAreWritten}
use Rattle.gen_work.proofs.examples.examples_of_scripts.Goals as goal

written : ScriptsAreWritten
unfolding digits
written = record {
  one_deck = refl;
  job_cards = refl;
  decks = refl;
  work = refl;
  lines = refl;
  five_decks = refl;
}

pub returns : goal.returns
returns c = written
