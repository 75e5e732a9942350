use Rattle.queue_effect.proofs.Changing.{outputs_dropped}
use Rattle.queue_effect.proofs.Marking.{then_touched}
use Rattle.queue_effect.proofs.operator.drop_outputs.Goals as goal

pub returns-clause-stands : goal.returns-clause-stands
returns-clause-stands c = λ Q stands.
    rw (c.empty_outputs.ensures.value, c.free_prints.ensures.value Q.outputs stands.outputs) (outputs_dropped c.args.tables.now Q c.args.job stands)

pub returns-clause-touches : goal.returns-clause-touches
returns-clause-touches c = then_touched _ _ _ _ _ _ c.free_prints.ensures.touches c.free_prints.ensures.fit c.empty_outputs.ensures.touches
