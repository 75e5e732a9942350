use Rattle.std.proofs.Common.{◌≡◌, length, rules}
use Rattle.ckpt_tables.specs.Shape.{page_count}
use Rattle.page_tables.proofs.TakeLemmas.{spelled_if}
use Rattle.page_tables.proofs.bringing.can_bring_up.Goals as goal

pub returns-clause-good : goal.returns-clause-good
returns-clause-good c is =
    let count : length c.args.pages.now ≡ page_count c.args.tables.now.config = search rules in
    let later = c.is_later.ensures.good is in
    record {
      count = count;
      header = c.has_header.ensures.good c.if-not-has_header.false;
      order = later.order;
      each = later.each;
    }

pub returns-clause-bad : goal.returns-clause-bad
returns-clause-bad c is can = c.is_later.ensures.bad is (record { order = can.order; each = can.each })

pub returns-clause-spelled : goal.returns-clause-spelled
returns-clause-spelled c is = spelled_if c.args.tables.now c.args.pages.now c.args.marks.now.pages c.requires.spelling (returns-clause-good c is) c.requires.older c.law_of_page_sizes.ensures
