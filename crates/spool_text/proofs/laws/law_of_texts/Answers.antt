use Rattle.std.proofs.Common.{◌∙◌, ap, Some}
use Rattle.spool_text.specs.Texts.{grouped}
use Rattle.spool_text.proofs.Grouping.{lines-grouped_after}
use Rattle.spool_text.proofs.Sizes.{each-grouped, text_of-groups}
use Rattle.spool_text.proofs.laws.law_of_texts.Goals as goal

pub returns : goal.returns
returns c = λ lines are. text_of-groups (grouped lines) (each-grouped lines are) ∙ ap Some (lines-grouped_after 0 lines)
