use Rattle.std.proofs.Common.{◌≡◌, ◌∙◌, ap}
use Rattle.ckpt_pages.specs.Starts.{first_levels}
use Rattle.member_node.proofs.DrawnLemmas.{blank_drawn}
use Rattle.member_node.proofs.checkpoint.blank.Goals as goal

pub returns-clause-drawn : goal.returns-clause-drawn
returns-clause-drawn c =
    let levels : c.in_ok-levels.levels ≡ first_levels _ = c.in_ok-levels.ensures ∙ ap first_levels c.page_count.ensures in
    blank_drawn c.args.config.now c.args.routes.now c.requires.config c.requires.few c.requires.routes c.in_ok-tables.tables c.in_ok-levels.levels c.in_ok-pages.pages
    c.law_of_empty_tables.ensures.spelling c.law_of_empty_tables.ensures.levels c.in_ok-tables.ensures.value levels c.in_ok-pages.ensures.spelled c.in_ok-pages.ensures.sized
