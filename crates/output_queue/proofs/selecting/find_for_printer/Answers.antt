use Rattle.std.proofs.Common.{◌≡◌, List, Option, None, subst}
use Rattle.std.specs.Prelude.{find, IfSome, IfNone}
use Rattle.lay_bytes.specs.declared.records.JobRec.{JobRec}
use Rattle.queue_slots.specs.Listed.{listed, StandsFirst}
use Rattle.queue_slots.proofs.Founds.{found_here}
use Rattle.output_queue.specs.Outputs.{order_of}
use Rattle.output_queue.proofs.PrinterLemmas.{selected_some, selected_none, goes_first}
use Rattle.output_queue.proofs.selecting.find_for_printer.Goals as goal

pub returns-clause-here : goal.returns-clause-here
returns-clause-here c =
    let first = goes_first c.args.outputs.now c.args.jobs.now c.args.by c.args.setting.now in
    found_here order_of first c.args.outputs.now c.best_slot_by_class.result
    (subst (λ (js : List (Option JobRec)). IfSome c.best_slot_by_class.result (λ f. StandsFirst order_of (goes_first c.args.outputs.now js c.args.by c.args.setting.now) c.args.outputs.now f.at f.item))
    c.by_number.ensures c.best_slot_by_class.ensures.some)

pub returns-clause-some : goal.returns-clause-some
returns-clause-some c =
    selected_some c.args.outputs.now c.args.jobs.now c.args.by c.args.setting.now c.best_slot_by_class.result
    (subst (λ (js : List (Option JobRec)). IfSome c.best_slot_by_class.result (λ f. StandsFirst order_of (goes_first c.args.outputs.now js c.args.by c.args.setting.now) c.args.outputs.now f.at f.item))
    c.by_number.ensures c.best_slot_by_class.ensures.some)

pub returns-clause-none : goal.returns-clause-none
returns-clause-none c =
    selected_none c.args.outputs.now c.args.jobs.now c.args.by c.args.setting.now c.best_slot_by_class.result
    (subst (λ (js : List (Option JobRec)). IfNone c.best_slot_by_class.result (find (goes_first c.args.outputs.now js c.args.by c.args.setting.now) (listed order_of c.args.outputs.now) ≡ None))
    c.by_number.ensures c.best_slot_by_class.ensures.none)
