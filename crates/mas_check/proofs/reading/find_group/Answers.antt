use Rattle.std.proofs.Common.{◌∙◌, sym}
use Rattle.mas_check.proofs.GroupLemmas.{found_text, found_other}
use Rattle.mas_check.proofs.reading.find_group.Goals as goal

pub returns-then-has_text-clause-held : goal.returns-then-has_text-clause-held
returns-then-has_text-clause-held g c told none =
    let P = g.P.Plant in
    found_text P.tells (P.view c.args.plant.now) (P.view c.read_group-records.new.plant) c.args.per c.args.at c.args.owner.now c.read_group-records.result (sym c.has_text.ensures ∙ c.if-has_text.true) c.read_group-records.ensures.held told none

pub returns-else-has_text-clause-held : goal.returns-else-has_text-clause-held
returns-else-has_text-clause-held g c told none = found_other (g.P.Plant.view c.args.plant.now) c.args.per c.args.at c.args.owner.now (sym c.has_text.ensures ∙ c.if-has_text.false)
