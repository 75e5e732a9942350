use Rattle.std.proofs.Common.{◌≡◌, ◌∙◌, [], map, ap, subst, sym, string_bytes}
use Rattle.clap.specs.Faults.{fault_of, is_simple_and_free}
use Rattle.clap.specs.Kinds.{HasKind}
use Rattle.clap.specs.Simple.{App, app_of, is_simple, subcommand_of, subcommand_rows_of}
use Rattle.mas_words.specs.Program.{program_app}
use Rattle.mas_words.specs.Words.{Reads}
use Rattle.mas_words.proofs.Built.{program_is_simple, program_simple}
use Rattle.mas_words.proofs.Readings.{matches_read, no_dashes, refusal_reads, some_dashes}
use Rattle.mas_words.proofs.reading.read_words.Goals as goal

pub returns-then-has_dashes : goal.returns-then-has_dashes
returns-then-has_dashes c = some_dashes c.args.words.now (sym c.has_dashes.ensures ∙ c.if-has_dashes.true)

pub returns-in-Err : goal.returns-in-Err
returns-in-Err c =
    let words = map string_bytes c.args.words.now in
    let app : app_of c.in-Ok.program ≡ program_app = c.in-Ok.ensures.0 in
    refusal_reads words (no_dashes c.args.words.now (sym c.has_dashes.ensures ∙ c.if-has_dashes.false)) c.in-Err.error c.refusal.result c.refusal.ensures
    (subst (λ (a : App). HasKind (fault_of a words) c.in-Err.error) app (c.in-Err.ensures.kinds (ap is_simple_and_free app ∙ program_simple)))

pub returns-in-Ok-try_get_matches_from : goal.returns-in-Ok-try_get_matches_from
returns-in-Ok-try_get_matches_from c =
    let words = map string_bytes c.args.words.now in
    let app : app_of c.in-Ok.program ≡ program_app = c.in-Ok.ensures.0 in
    let matches = c.in-Ok-try_get_matches_from.matches in
    let clear : fault_of program_app words ≡ [] =
    subst (λ (a : App). fault_of a words ≡ []) app (c.in-Ok-try_get_matches_from.ensures.kinds (ap is_simple_and_free app ∙ program_simple)) in
    let met : subcommand_rows_of matches ≡ subcommand_of program_app words =
    (c.in-Ok-try_get_matches_from.ensures.matches (ap is_simple app ∙ program_is_simple)).1 ∙ ap (λ (a : App). subcommand_of a words) app in
    subst (λ o. Reads o c.words_met.result) (matches_read words (no_dashes c.args.words.now (sym c.has_dashes.ensures ∙ c.if-has_dashes.false)) clear matches met) c.words_met.ensures
