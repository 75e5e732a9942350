use Rattle.std.proofs.Common.{◌≡◌, ◌∙◌, Some, None, option_map, ap, rules, sym}
use Rattle.mas_words.specs.Program.{is_set}
use Rattle.mas_words.proofs.Readings.{read_cold}
use Rattle.mas_words.proofs.reading.has_cold.Goals as goal

pub returns-in-Some : goal.returns-in-Some
returns-in-Some c =
    let is : c.get_str.result ≡ Some c.in-Some.text = search rules in
    c.eq.ensures ∙ sym (ap (λ o. is_set (option_map (λ s. s.now) o)) is) ∙ read_cold c.args.matches.now c.get_str.result c.get_str.ensures

pub returns-in-None : goal.returns-in-None
returns-in-None c =
    let is : c.get_str.result ≡ None = search rules in
    sym (ap (λ o. is_set (option_map (λ s. s.now) o)) is) ∙ read_cold c.args.matches.now c.get_str.result c.get_str.ensures
