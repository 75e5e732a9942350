use Rattle.std.proofs.Common.{sym, ◌∙◌}
use Rattle.queue_slots.proofs.Changes.{all_used, free_at, some_free}
use Rattle.output_queue.proofs.OutputLemmas.{length-outputs, outputs-added}
use Rattle.output_queue.proofs.adding.add.Goals as goal

pub returns-in_default-clause-full : goal.returns-in_default-clause-full
returns-in_default-clause-full c = λ os are.
    sym (length-outputs c.args.outputs.now os are) ∙ all_used c.args.outputs.now (sym c.free_slot.ensures ∙ c.in_default.is)

pub returns-clause-added : goal.returns-clause-added
returns-clause-added c = λ os are.
    rw c.new_record.ensures
    (outputs-added c.args.outputs.now c.in-Some.at os c.args.job c.args.index c.args.spec.now c.args.order
    (free_at c.args.outputs.now c.in-Some.at (sym c.free_slot.ensures ∙ c.in-Some.is)) c.requires.above are)

pub returns-clause-room : goal.returns-clause-room
returns-clause-room c = λ os are.
    rw (← length-outputs c.args.outputs.now os are)
    (some_free c.args.outputs.now c.in-Some.at (free_at c.args.outputs.now c.in-Some.at (sym c.free_slot.ensures ∙ c.in-Some.is)))
