use Rattle.std.proofs.Common.{◌≡◌, ◌∙◌, true, sym}
use Rattle.mas_complex.specs.Fits.{are_same}
use Rattle.start_choice.proofs.ChoiceLemmas.{judged_again, few_again}
use Rattle.start_choice.proofs.choosing.judge_pages.Goals as goal

pub returns-clause-judged : goal.returns-clause-judged
returns-clause-judged c =
    let same : are_same c.args.good.now.pages c.args.pages ≡ true = rw (c.as_slice.ensures, c.as_slice-2.ensures) at (sym c.same_pages.ensures ∙ c.if-not-same_pages.false) in
    judged_again c.args.good.now c.args.pages c.in_ok-tables.tables c.requires.tables same c.in_ok-tables.ensures

pub returns-clause-few : goal.returns-clause-few
returns-clause-few c =
    let same : are_same c.args.good.now.pages c.args.pages ≡ true = rw (c.as_slice.ensures, c.as_slice-2.ensures) at (sym c.same_pages.ensures ∙ c.if-not-same_pages.false) in
    few_again c.args.good.now c.args.pages c.in_ok-tables.tables c.requires.few same
