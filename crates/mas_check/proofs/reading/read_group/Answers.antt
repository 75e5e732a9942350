use Rattle.std.proofs.Common.{◌≡◌, ◌∙◌, length, arith}
use Rattle.mas_types.specs.Limits.{page_bytes}
use Rattle.mas_check.proofs.GroupLemmas.{held_read}
use Rattle.mas_check.proofs.reading.read_group.Goals as goal

pub returns-in-Done-clause-held : goal.returns-in-Done-clause-held
returns-in-Done-clause-held g c told there =
    let v = g.P.Plant.view c.args.plant.now in
    let read = (c.in-Done.ensures.content told).disk in
    let long : length c.read.new.into ≡ page_bytes = c.law_of_page.ensures in
    c.count_records.ensures ∙ held_read v c.args.per c.args.group c.read.new.into (omega (arith, c.if-size-at.false, c.size.ensures)) (rw long at read.1)
