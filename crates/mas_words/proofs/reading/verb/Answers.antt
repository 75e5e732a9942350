use Rattle.std.proofs.Common.{◌≡◌, codes, rules}
use Rattle.std.proofs.lemmas.Result.{err_from_is_err_and}
use Rattle.mas_words.proofs.Readings.{generate_read, generate_refused}
use Rattle.mas_words.proofs.reading.verb.Goals as goal

pub returns-in_err-number-in-generate : goal.returns-in_err-number-in-generate
returns-in_err-number-in-generate c =
    let p = err_from_is_err_and c.from_residual.result c.from_residual.ensures.1 in
    let named : c.args.name.now ≡ codes "generate" = search rules in
    rw (p.1, p.2) (generate_refused c.args.name.now c.args.matches.now c.get_str.result named c.get_str.ensures c.in_err-number-in-generate.field-0.0 c.in_err-number-in-generate.ensures)

pub returns-in_ok-number-in-generate : goal.returns-in_ok-number-in-generate
returns-in_ok-number-in-generate c =
    let named : c.args.name.now ≡ codes "generate" = search rules in
    generate_read c.args.name.now c.args.matches.now c.get_str.result named c.get_str.ensures c.in_ok-number-in-generate.field-0 c.in_ok-number-in-generate.ensures
