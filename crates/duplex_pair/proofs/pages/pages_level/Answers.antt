use Rattle.std.proofs.Common.{[], rules, sym, ◌∙◌}
use Rattle.duplex_pair.proofs.FirstLevel.{level_head, level_empty}
use Rattle.duplex_pair.proofs.pages.pages_level.Goals as goal

pub returns-then-is_empty : goal.returns-then-is_empty
returns-then-is_empty c = level_empty c.args.pages.now (search rules)

pub returns : goal.returns
returns c =
    c.page_level.ensures.level ∙ sym (level_head c.args.pages.now (record { 0 = [] }) (sym c.is_empty.ensures ∙ c.if-is_empty.false) c.page_level.ensures.size)
