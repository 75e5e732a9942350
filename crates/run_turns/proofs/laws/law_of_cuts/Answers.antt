use Rattle.run_turns.proofs.Firsts.{cuts_give_first, cuts_give_first_bytes}
use Rattle.run_turns.proofs.Told.{said_is_kept}
use Rattle.run_turns.proofs.laws.law_of_cuts.Goals as goal

pub returns : goal.returns
returns c = record { first = cuts_give_first; bytes = cuts_give_first_bytes; said = said_is_kept }
