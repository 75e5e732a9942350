use Rattle.std.proofs.Common.{ap, subst, sym}
use Rattle.std.specs.Prelude.{option_and_then}
use Rattle.clap.specs.Matches.{found_of}
use Rattle.clap.specs.Walk.{rows_of}
use Rattle.mas_words.specs.Words.{Reads}
use Rattle.mas_words.specs.Program.{words_met}
use Rattle.mas_words.proofs.Readings.{subcommand_met, subcommand_unmet}
use Rattle.mas_words.proofs.reading.words_met.Goals as goal

pub returns-in-Some : goal.returns-in-Some
returns-in-Some c =
    subst (λ o. Reads (option_and_then (λ met. words_met met.0 met.1) o) c.words_from.result)
    (sym (subcommand_met c.args.matches.now c.in-Some.name.now (rows_of (found_of c.in-Some.inner.now)) c.in-Some.ensures.name c.in-Some.ensures.rows))
    c.words_from.ensures

pub returns-in-None : goal.returns-in-None
returns-in-None c = ap (option_and_then (λ met. words_met met.0 met.1)) (subcommand_unmet c.args.matches.now c.in-None.ensures.name)
