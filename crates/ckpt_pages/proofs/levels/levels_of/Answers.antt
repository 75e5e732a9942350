use Rattle.std.proofs.Common.{ℕ, List, [], ◌∷◌, ◌++◌, sym, ap, ◌∙◌, add-one, arith}
use Rattle.ckpt_tables.specs.Shape.{level_in}
use Rattle.ckpt_pages.specs.Given.{levels_in}
use Rattle.ckpt_tables.specs.Pages.{page_in}
use Rattle.ckpt_pages.proofs.RunLemmas.{page_at}
use Rattle.ckpt_pages.proofs.levels.levels_of.Goals as goal

pub loop-page-preserved : goal.loop-page-preserved
loop-page-preserved c =
    let here = page_at c.args.pages.now 0 (record { 0 = [] }) (omega arith) in
    let level = c.level_of.ensures ∙ ap (λ (page : List ℕ). level_in page c.loop-page.page) (sym here) in
    c.in_ok-push.ensures.ok ∙ ap (λ (ls : List ℕ). ls ++ c.level_of.result ∷ []) c.loop-page.invariant
    ∙ ap (λ (l : ℕ). levels_in (page_in c.args.pages.now 0) c.loop-page.page ++ l ∷ []) level ∙ ap (levels_in (page_in c.args.pages.now 0)) (sym (add-one c.loop-page.page))
