use Rattle.std.proofs.Common.{◌∙◌, ap, Ok}
use Rattle.spool_volumes.specs.Texts.{held}
use Rattle.spool_volumes.proofs.ReadLemmas.{are_records, no_records, ok_is, page_shown}
use Rattle.spool_volumes.proofs.reading.add_group.Goals as goal

pub returns-clause-added : goal.returns-clause-added
returns-clause-added g c is told =
    let added = c.add_lines.ensures.added (ok_is _ _ is) in
    let page = c.in_ok-read_page.ensures.read (ap Ok c.if-not-branch.false) told in
    record {
      lines = added.lines;
      held = ap held page ∙ (c.law_of_reading.ensures c.read_page.new.into added.lines).1 added.holds;
      is = added.is;
    }

pub returns-clause-records : goal.returns-clause-records
returns-clause-records g c is all =
    let added = c.add_lines.ensures.added (ok_is _ _ is) in
    are_records c.args.lines.now added.lines c.add_lines.new.into added.is added.holds.each all

pub returns-clause-none : goal.returns-clause-none
returns-clause-none g c is told steady =
    let page = c.in_ok-read_page.ensures.read (ap Ok c.if-not-branch.false) told in
    ap held page ∙ no_records c.law_of_reading.ensures c.read_page.new.into (c.add_lines.ensures.none (ok_is _ _ is))

pub returns-clause-out : goal.returns-clause-out
returns-clause-out g c is told there =
    let page = c.in_ok-read_page.ensures.read (ap Ok c.if-not-branch.false) told in
    ap held (page_shown (g.P.Plant.view c.args.plant.now) c.args.per c.args.group c.read_page.new.into page) ∙ no_records c.law_of_reading.ensures c.read_page.new.into (c.add_lines.ensures.none (ok_is _ _ is))
