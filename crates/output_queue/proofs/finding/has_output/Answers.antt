use Rattle.std.proofs.Common.{◌∙◌}
use Rattle.output_queue.proofs.OutputLemmas.{has_output-found}
use Rattle.output_queue.proofs.finding.has_output.Goals as goal

pub returns : goal.returns
returns c = λ os are. c.is_some.ensures ∙ has_output-found c.args.job c.args.outputs.now os c.first_slot.result are c.first_slot.ensures.some c.first_slot.ensures.none
