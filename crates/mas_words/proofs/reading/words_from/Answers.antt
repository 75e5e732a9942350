use Rattle.std.proofs.Common.{ap, sym, ◌∙◌, codes, Err, subst}
use Rattle.std.proofs.lemmas.Result.{err_from_is_err_and}
use Rattle.clap.specs.Matches.{found_of}
use Rattle.clap.specs.Walk.{rows_of}
use Rattle.mas_words.specs.Words.{Reads}
use Rattle.mas_words.specs.Program.{folder_of}
use Rattle.mas_words.proofs.Readings.{folder_refused, read_text, verb_refused, words_read}
use Rattle.mas_words.proofs.reading.words_from.Goals as goal

pub returns-in_err-verb : goal.returns-in_err-verb
returns-in_err-verb c =
    let p = err_from_is_err_and c.from_residual.result c.from_residual.ensures.1 in
    rw (p.1, p.2) (verb_refused c.args.name.now (rows_of (found_of c.args.matches.now)) c.in_err-verb.field-0.0 c.in_err-verb.ensures)

pub returns-in_err-dir : goal.returns-in_err-dir
returns-in_err-dir c =
    let p = err_from_is_err_and c.from_residual-in_err-dir.result c.from_residual-in_err-dir.ensures.1 in
    let read = read_text (codes "dir") c.args.matches.now c.get_str.result c.get_str.ensures in
    rw (p.1, p.2) (folder_refused c.args.name.now (rows_of (found_of c.args.matches.now)) c.in_err-dir.field-0.0
    (subst (λ o. Reads (folder_of o) (Err c.in_err-dir.field-0.0)) read c.in_err-dir.ensures))

pub returns : goal.returns
returns c =
    let read = read_text (codes "dir") c.args.matches.now c.get_str.result c.get_str.ensures in
    words_read c.args.name.now (rows_of (found_of c.args.matches.now)) c.in_ok-verb.verb c.is_cold-cold.result c.in_ok-dir.dir
    c.in_ok-verb.ensures c.is_cold-cold.ensures (sym (ap folder_of read) ∙ c.in_ok-dir.ensures)
