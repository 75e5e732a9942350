use Rattle.std.proofs.Common.{◌≡◌, ◌∙◌, [], length, sym, ap, rules, arith}
use Rattle.ckpt_tables.specs.Shape.{page_count}
use Rattle.ckpt_pages.proofs.RunLemmas.{page_at}
use Rattle.page_tables.specs.Bringing.{said_config}
use Rattle.page_tables.proofs.HeaderOver.{header_of_spelled}
use Rattle.page_tables.proofs.bringing.can_bring_up_spelled.Goals as goal

pub returns-then-not-is_said-clause-bad : goal.returns-then-not-is_said-clause-bad
returns-then-not-is_said-clause-bad c is can =
    let first = page_at c.args.pages.now 0 (record { 0 = [] }) (omega (arith, can.count)) in
    c.is_said.ensures.other c.if-not-is_said.true (ap (said_config c.args.tables.now.config.node) (sym first) ∙ can.header.config)

pub returns-clause-good : goal.returns-clause-good
returns-clause-good c is =
    let count : length c.args.pages.now ≡ page_count c.args.tables.now.config = search rules in
    let first = page_at c.args.pages.now 0 (record { 0 = [] }) (omega (arith, count)) in
    let later = c.is_later.ensures.good is in
    record {
      count = count;
      header = header_of_spelled c.args.tables.now.config c.args.pages.now c.requires.spelled.0 c.requires.spelled.1 count
          (ap (said_config c.args.tables.now.config.node) first ∙ c.is_said.ensures.same c.if-not-is_said.false);
      order = later.order;
      each = later.each;
    }

pub returns-clause-bad : goal.returns-clause-bad
returns-clause-bad c is can = c.is_later.ensures.bad is (record { order = can.order; each = can.each })
