use Rattle.std.proofs.Common.{◌&&◌, refl}
use Rattle.mas_types.specs.Ids.{same_class}
use Rattle.queue_slots.proofs.Founds.{found_here}
use Rattle.lay_bytes.specs.declared.records.OutRec.{OutRec}
use Rattle.output_queue.specs.Outputs.{order_of, may_take}
use Rattle.output_queue.proofs.PrinterLemmas.{selected_some, selected_none, goes_first}
use Rattle.job_select.specs.Chains.{slots_of}
use Rattle.job_select.specs.Kinds.{output_chain}
use Rattle.job_select.proofs.KindLemmas.{in_chain, for_printer_chain}
use Rattle.job_select.proofs.finding.for_printer_of.Goals as goal

pub best_by_class-requires : goal.best_by_class-requires
best_by_class-requires c = λ k j y there picked.
    in_chain output_chain c.args.outputs.now c.args.chains.now c.requires.chained (λ (r : OutRec). may_take c.args.jobs.now c.args.by c.args.setting.now.forms r && same_class r.class k) k.0 (λ r. for_printer_chain r c.args.jobs.now c.args.by c.args.setting.now.forms k) (slots_of c.args.chains.now k.0) refl j y there picked

pub returns-clause-here : goal.returns-clause-here
returns-clause-here c =
    found_here order_of (goes_first c.args.outputs.now c.args.jobs.now c.args.by c.args.setting.now) c.args.outputs.now c.best_by_class.result c.best_by_class.ensures.some

pub returns-clause-some : goal.returns-clause-some
returns-clause-some c = selected_some c.args.outputs.now c.args.jobs.now c.args.by c.args.setting.now c.best_by_class.result c.best_by_class.ensures.some

pub returns-clause-none : goal.returns-clause-none
returns-clause-none c = selected_none c.args.outputs.now c.args.jobs.now c.args.by c.args.setting.now c.best_by_class.result c.best_by_class.ensures.none
