use Rattle.std.proofs.Common.{◌+◌, ◌∙◌, ◌<◌, length, sym, ap, arith}
use Rattle.std.specs.List.{refill}
use Rattle.std.proofs.lemmas.List.Elements.{All-weaker}
use Rattle.ckpt_tables.specs.Shape.{differing}
use Rattle.member_node.proofs.AgeLemmas.{next_taken}
use Rattle.member_node.proofs.BatchLemmas.{refilled}
use Rattle.member_node.proofs.DrawnLemmas.{length-raised, numbers_within}
use Rattle.member_node.proofs.RedrawLemmas.{changes_taken}
use Rattle.member_node.proofs.checkpoint.take_changes.Goals as goal

pub raise-requires : goal.raise-requires
raise-requires c =
    rw (c.requires.differ.numbers, c.as_mut_slice.ensures.value)
    (numbers_within c.args.checkpoint.now.tables c.args.checkpoint.now.level c.args.checkpoint.now.levels c.requires.leveled c.requires.level c.args.checkpoint.now.pages c.requires.differ.drawn c.requires.pages c.requires.differ.spelling.spelled.count)

pub draw_pages-requires-clause-numbers : goal.draw_pages-requires-clause-numbers
draw_pages-requires-clause-numbers c =
    rw (c.requires.differ.numbers, c.as_mut_slice-2.ensures.value)
    (All-weaker (λ p. p < length c.args.checkpoint.now.levels) (λ p. p < length c.args.checkpoint.now.pages) (λ p lt. omega (arith, lt, c.requires.leveled.count, c.requires.pages))
    (differing c.args.checkpoint.now.pages c.requires.differ.drawn)
    (numbers_within c.args.checkpoint.now.tables c.args.checkpoint.now.level c.args.checkpoint.now.levels c.requires.leveled c.requires.level c.args.checkpoint.now.pages c.requires.differ.drawn c.requires.pages c.requires.differ.spelling.spelled.count))

pub returns-clause-drawn : goal.returns-clause-drawn
returns-clause-drawn c =
    (changes_taken c.args.checkpoint.now.tables c.args.checkpoint.now.level c.args.checkpoint.now.levels c.requires.spelling c.requires.leveled c.requires.level c.args.checkpoint.now.pages c.requires.pages c.requires.sized
    c.args.numbers.now c.requires.differ c.raise.new.levels (rw c.as_mut_slice.ensures.value at c.raise.ensures) c.draw_pages.new.pages (rw c.as_mut_slice-2.ensures.value at c.draw_pages.ensures.drawn) c.draw_pages.ensures.sized).drawn

pub returns-clause-changed : goal.returns-clause-changed
returns-clause-changed c =
    (changes_taken c.args.checkpoint.now.tables c.args.checkpoint.now.level c.args.checkpoint.now.levels c.requires.spelling c.requires.leveled c.requires.level c.args.checkpoint.now.pages c.requires.pages c.requires.sized
    c.args.numbers.now c.requires.differ c.raise.new.levels (rw c.as_mut_slice.ensures.value at c.raise.ensures) c.draw_pages.new.pages (rw c.as_mut_slice-2.ensures.value at c.draw_pages.ensures.drawn) c.draw_pages.ensures.sized).numbered

pub returns-clause-covered : goal.returns-clause-covered
returns-clause-covered c =
    (changes_taken c.args.checkpoint.now.tables c.args.checkpoint.now.level c.args.checkpoint.now.levels c.requires.spelling c.requires.leveled c.requires.level c.args.checkpoint.now.pages c.requires.pages c.requires.sized
    c.args.numbers.now c.requires.differ c.raise.new.levels (rw c.as_mut_slice.ensures.value at c.raise.ensures) c.draw_pages.new.pages (rw c.as_mut_slice-2.ensures.value at c.draw_pages.ensures.drawn) c.draw_pages.ensures.sized).covered

pub returns-clause-exact : goal.returns-clause-exact
returns-clause-exact c =
    (changes_taken c.args.checkpoint.now.tables c.args.checkpoint.now.level c.args.checkpoint.now.levels c.requires.spelling c.requires.leveled c.requires.level c.args.checkpoint.now.pages c.requires.pages c.requires.sized
    c.args.numbers.now c.requires.differ c.raise.new.levels (rw c.as_mut_slice.ensures.value at c.raise.ensures) c.draw_pages.new.pages (rw c.as_mut_slice-2.ensures.value at c.draw_pages.ensures.drawn) c.draw_pages.ensures.sized).exact

-- a page that is drawn again has the new level, and each other page the one that it had
pub returns-clause-leveled : goal.returns-clause-leveled
returns-clause-leveled c =
    let k = c.args.checkpoint.now in
    let taken = changes_taken k.tables k.level k.levels c.requires.spelling c.requires.leveled c.requires.level k.pages c.requires.pages c.requires.sized
    c.args.numbers.now c.requires.differ c.raise.new.levels (rw c.as_mut_slice.ensures.value at c.raise.ensures) c.draw_pages.new.pages (rw c.as_mut_slice-2.ensures.value at c.draw_pages.ensures.drawn) c.draw_pages.ensures.sized in
    let long = rw c.as_mut_slice.ensures.value at c.raise.ensures in
    next_taken k.tables k.level k.levels (refill (length k.levels) k.levels c.raise.new.levels) c.args.numbers.now k.pages (refill (length k.pages) k.pages c.draw_pages.new.pages)
    (refilled k.levels c.raise.new.levels (ap length long ∙ length-raised c.args.numbers.now (k.level + 1) k.levels) ∙ long) taken.drawn c.requires.sized (c.requires.pages ∙ sym taken.drawn.spelled.count) (c.requires.leveled.count ∙ sym c.requires.pages)
    c.requires.aged c.requires.at_level taken.covered taken.exact
