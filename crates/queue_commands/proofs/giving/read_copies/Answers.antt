use Rattle.std.proofs.Common.{◌≤◌, List, take, get_or, All, sym, subst}
use Rattle.std.proofs.lemmas.List.{take_more, take_all}
use Rattle.std.proofs.lemmas.List.Elements.{All-push}
use Rattle.mas_types.specs.declared.jobs.OutSpec.{OutSpec}
use Rattle.lay_bytes.specs.Limits.{copies_most}
use Rattle.queue_commands.proofs.giving.read_copies.Goals as goal

abbrev FewCopies : OutSpec → Type 0
FewCopies s = s.copies ≤ copies_most

pub loop-output-preserved : goal.loop-output-preserved
loop-output-preserved c =
    let outputs : List OutSpec = c.args.outputs.now in
    let at = c.loop-output.output-index in
    let here : FewCopies (get_or c.args.outputs.now c.loop-output.output-index c.output-item.result) = subst FewCopies c.output-item.is c.read_copies_of.ensures in
    subst (λ (xs : List OutSpec). All FewCopies xs) (sym (take_more outputs at c.output-item.result c.loop-output-test.true))
    (All-push FewCopies (take at outputs) (get_or outputs at c.output-item.result) c.loop-output.invariant here)

pub returns : goal.returns
returns c = subst (λ (xs : List OutSpec). All FewCopies xs) (take_all c.loop-output.output-index c.args.outputs.now c.loop-output-test.false) c.loop-output.invariant
