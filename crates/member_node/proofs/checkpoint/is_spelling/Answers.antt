use Rattle.std.proofs.Common.{◌≡◌, ◌∙◌, ◌<◌, true, false, [], length, refl, sym, rules, arith}
use Rattle.ckpt_tables.specs.Pages.{page_of}
use Rattle.member_node.proofs.RedrawLemmas.{page_with}
use Rattle.member_node.proofs.SpellLemmas.{page_got, spelled_more, unspelled}
use Rattle.member_node.proofs.checkpoint.is_spelling.Goals as goal

pub is_as_drawn-requires-clause-size : goal.is_as_drawn-requires-clause-size
is_as_drawn-requires-clause-size c =
    let inside : c.loop-number.number < length c.args.pages.now = omega (arith, c.page_count-number-end.ensures, c.loop-number-test.true, c.requires.pages) in
    c.requires.sized c.loop-number.number (page_with []) inside

pub is_as_drawn-requires-clause-unchanged : goal.is_as_drawn-requires-clause-unchanged
is_as_drawn-requires-clause-unchanged c none =
    let inside : c.loop-number.number < length c.args.pages.now = omega (arith, c.page_count-number-end.ensures, c.loop-number-test.true, c.requires.pages) in
    page_got c.args.pages.now c.loop-number.number (page_with []) inside ∙ c.requires.unchanged c.loop-number.number inside none

pub returns-then-not-is_as_drawn-clause-no : goal.returns-then-not-is_as_drawn-clause-no
returns-then-not-is_as_drawn-clause-no c is =
    let inside : c.loop-number.number < length c.args.pages.now = omega (arith, c.page_count-number-end.ensures, c.loop-number-test.true, c.requires.pages) in
    let y = page_of c.args.tables.now c.args.levels.now c.loop-number.number in
    unspelled c.args.tables.now c.args.levels.now c.args.pages.now c.loop-number.number (page_with []) (page_with y) inside (sym c.is_as_drawn.ensures.same ∙ differs) refl where
      differs : c.is_as_drawn.result ≡ false
      differs = search rules

pub loop-number-preserved : goal.loop-number-preserved
loop-number-preserved c =
    let inside : c.loop-number.number < length c.args.pages.now = omega (arith, c.page_count-number-end.ensures, c.loop-number-test.true, c.requires.pages) in
    let y = page_of c.args.tables.now c.args.levels.now c.loop-number.number in
    spelled_more c.args.tables.now c.args.levels.now c.args.pages.now c.loop-number.number (page_with []) (page_with y) inside (sym c.is_as_drawn.ensures.same ∙ same) refl c.loop-number.invariant where
      same : c.is_as_drawn.result ≡ true
      same = search rules
