use Rattle.mas_complex.proofs.Answering.{◌≡◌, ◌∙◌, ◌<◌, ℕ, ◌+◌, ◌==◌, ◌||◌, Bool, List, [], ◌∷◌, ◌++◌, if◌then◌else◌, length, take, drop, get_or, ap, ap₂, arith, drop_more, bytes_of, level, level_in, first_page, found_numbers, is_found_at, numbers_from, first_is, numbers_more, page_with}
use Rattle.mas_complex.proofs.fitting.list_found.Goals as goal

pub loop-page-preserved : goal.loop-page-preserved
loop-page-preserved c =
    let found = c.args.found.now in
    let page = c.loop-page.page in
    let inside : c.loop-page.page < length c.args.found.now = c.loop-page-test.true in
    let is : (c.level_of.result == c.pages_level-reached.result) ≡ (level_in (first_page found) page == level (bytes_of found)) =
    ap₂ (λ (a b : ℕ). a == b) (c.level_of.ensures ∙ ap (λ (p0 : List ℕ). level_in p0 page) (first_is found _ (omega (arith, inside)))) c.pages_level-reached.ensures in
    let noted : take c.note-count.result c.note-count.new.numbers ≡ take c.loop-page.count c.loop-page.numbers ++ (if is_found_at (first_page found) (level (bytes_of found)) page then page ∷ [] else []) =
    c.note-count.ensures.noted ∙ ap (λ (b : Bool). take c.loop-page.count c.loop-page.numbers ++ (if (page == 0) || b then page ∷ [] else [])) is in
    record {
      few = omega (arith, c.loop-page.invariant.few, c.note-count.ensures.few);
      listed = ap (λ (ns : List ℕ). ns ++ numbers_from (first_page found) (level (bytes_of found)) (page + 1) (drop (page + 1) found)) noted
          ∙ numbers_more (first_page found) (level (bytes_of found)) page found (get_or found page (page_with [])) (take c.loop-page.count c.loop-page.numbers) (found_numbers found) (drop_more found page (page_with []) inside) c.loop-page.invariant.listed;
    }
