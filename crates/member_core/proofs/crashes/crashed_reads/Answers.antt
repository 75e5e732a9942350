use Rattle.std.proofs.Common.{◌∙◌, sym, ap}
use Rattle.std.proofs.lemmas.Result.{IfOk-weaker}
use Rattle.member_core.specs.Worlds.{no_copy}
use Rattle.member_core.specs.Steps.{crash_reads}
use Rattle.member_core.proofs.Places.{at_found}
use Rattle.member_core.proofs.crashes.crashed_reads.Goals as goal

pub returns : goal.returns
returns c =
    IfOk-weaker c.left_by_crash.result _ _ (λ reads is inside. is ∙ sym (ap (crash_reads c.args.left c.args.kept.now) (at_found no_copy c.args.at c.args.copies.now c.item.result.now c.item.ensures))) c.left_by_crash.ensures
