use Rattle.std.proofs.Common.{◌≡◌, ◌<◌, ℕ, List, [], ◌∷◌, ◌++◌, length, refl, sym, ap, ◌∙◌, add-one, arith}
use Rattle.std.proofs.lemmas.List.{length-set, take_all, take_more_set}
use Rattle.ckpt_tables.specs.Shape.{level_in}
use Rattle.ckpt_tables.specs.Pages.{page_in}
use Rattle.ckpt_pages.specs.Given.{levels_in}
use Rattle.ckpt_pages.proofs.RunLemmas.{page_at}
use Rattle.member_node.proofs.reading.write_levels.Goals as goal

pub loop-page-init : goal.loop-page-init
loop-page-init c = record { many = refl; taken = refl }

pub loop-page-preserved : goal.loop-page-preserved
loop-page-preserved c =
    let i = c.loop-page.invariant in
    let levels = c.loop-page.levels in
    let page = c.loop-page.page in
    let x = c.level_at.result in
    let lt : c.loop-page.page < length c.loop-page.levels = omega arith in
    let here = page_at c.args.pages.now 0 (record { 0 = [] }) (omega (arith, lt, i.many, c.requires.many)) in
    let level = c.level_at.ensures ∙ ap (λ (p : List ℕ). level_in p page) (sym here) in
    record {
      many = length-set levels page x ∙ i.many;
      taken = take_more_set levels page x lt ∙ ap (λ (ls : List ℕ). ls ++ x ∷ []) i.taken ∙ ap (λ (l : ℕ). levels_in (page_in c.args.pages.now 0) page ++ l ∷ []) level
          ∙ ap (levels_in (page_in c.args.pages.now 0)) (sym (add-one page));
    }

pub returns : goal.returns
returns c =
    let i = c.loop-page.invariant in
    let all : c.loop-page.page ≡ length c.loop-page.levels = omega (arith, i.many, c.loop-page.auto.page-end, c.loop-page-test.false) in
    let pages : c.loop-page.page ≡ length c.args.pages.now = omega (arith, all, i.many, c.requires.many) in
    sym (take_all c.loop-page.page c.loop-page.levels (omega (arith, all))) ∙ i.taken ∙ ap (levels_in (page_in c.args.pages.now 0)) pages
