use Rattle.std.proofs.Common.{◌+◌, ◌∙◌, sym, ap, ℕ}
use Rattle.std.proofs.lemmas.List.Splits.{length-slice_split}
use Rattle.mas_types.specs.Names.{is_blank}
use Rattle.script_lang.proofs.lines.count_words.Goals as goal

pub returns : goal.returns
returns c = ap (λ (n : ℕ). n + 1) c.count_blanks.ensures ∙ sym (length-slice_split is_blank c.args.text.now)
