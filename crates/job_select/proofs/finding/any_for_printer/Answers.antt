use Rattle.std.proofs.Common.{◌&&◌, Bool, refl, ap, ◌∙◌}
use Rattle.std.specs.Prelude.{find, is_some}
use Rattle.mas_types.specs.declared.jobs.Output.{Output}
use Rattle.mas_types.specs.Ids.{same_class}
use Rattle.lay_bytes.specs.declared.records.OutRec.{OutRec}
use Rattle.output_queue.specs.Outputs.{order_of, unordered, rec_of, may_take, prio_of}
use Rattle.output_queue.proofs.PrinterLemmas.{same_test}
use Rattle.job_select.specs.Chains.{slots_of}
use Rattle.job_select.specs.Kinds.{output_chain}
use Rattle.job_select.proofs.KindLemmas.{in_chain, for_printer_chain}
use Rattle.job_select.proofs.ToldLemmas.{any_keyed}
use Rattle.job_select.proofs.finding.any_for_printer.Goals as goal

pub any_by_class-requires : goal.any_by_class-requires
any_by_class-requires c = λ k j y there picked.
    in_chain output_chain c.args.outputs.now c.args.chains.now c.requires.chained (λ (r : OutRec). may_take c.args.jobs.now c.args.by c.args.setting.now.forms r && same_class r.class k) k.0 (λ r. for_printer_chain r c.args.jobs.now c.args.by c.args.setting.now.forms k) (slots_of c.args.chains.now k.0) refl j y there picked

pub returns : goal.returns
returns c = λ Q are outs set.
    c.any_by_class.ensures
    ∙ any_keyed {B = Output} order_of unordered rec_of c.args.outputs.now Q.outputs outs (λ (r : OutRec). prio_of c.args.jobs.now r.job) (λ k (r : OutRec). same_class r.class k) c.args.setting.now.prt (may_take c.args.jobs.now c.args.by c.args.setting.now.forms)
    ∙ ap (λ (test : Output → Bool). is_some (find test Q.outputs)) (same_test c.args.jobs.now c.args.by c.args.setting.now Q are set)
