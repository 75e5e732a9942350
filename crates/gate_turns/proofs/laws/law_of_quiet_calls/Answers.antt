use Rattle.gate_turns.proofs.Quiet.{books_quiet, reserves_quiet, gives_up_quiet, spool_quiet, prints_quiet, calls_quiet, fates_quiet, logs_begin, keeps_begin}
use Rattle.gate_turns.proofs.laws.law_of_quiet_calls.Goals as goal

pub returns : goal.returns
returns c = record { books = books_quiet; reserves = reserves_quiet; gives_up = gives_up_quiet; spool = spool_quiet; prints = prints_quiet; calls = calls_quiet; fates = fates_quiet; logs = logs_begin; keeps = keeps_begin }
