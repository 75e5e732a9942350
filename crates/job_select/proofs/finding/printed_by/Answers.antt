use Rattle.std.proofs.Common.{◌+◌}
use Rattle.mas_types.specs.Ids.{same_member}
use Rattle.queue_slots.proofs.Founds.{found_here, first_told, none_told}
use Rattle.lay_bytes.specs.declared.records.OutRec.{OutRec}
use Rattle.output_queue.specs.Outputs.{order_of, unordered, rec_of}
use Rattle.job_select.specs.Kinds.{output_chain, printing_chains}
use Rattle.job_select.proofs.KindLemmas.{in_chain, printing_chain}
use Rattle.job_select.proofs.finding.printed_by.Goals as goal

pub first_in-requires-clause-all : goal.first_in-requires-clause-all
first_in-requires-clause-all c = in_chain output_chain c.args.outputs.now c.args.chains.now c.requires.chained (λ (r : OutRec). same_member r.busy c.args.by) (printing_chains + c.args.by.0) (λ r. printing_chain r c.args.by c.requires.member) c.slots_in.result.now c.slots_in.ensures

pub returns-clause-here : goal.returns-clause-here
returns-clause-here c = found_here order_of (λ (r : OutRec). same_member r.busy c.args.by) c.args.outputs.now c.first_in.result c.first_in.ensures.some

pub returns-clause-some : goal.returns-clause-some
returns-clause-some c = first_told order_of unordered rec_of c.args.outputs.now c.first_in.result (λ (r : OutRec). same_member r.busy c.args.by) c.first_in.ensures.some

pub returns-clause-none : goal.returns-clause-none
returns-clause-none c = none_told order_of unordered rec_of c.args.outputs.now c.first_in.result (λ (r : OutRec). same_member r.busy c.args.by) c.first_in.ensures.none
