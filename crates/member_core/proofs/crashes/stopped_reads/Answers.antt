use Rattle.std.proofs.Common.{◌∙◌, sym, ap}
use Rattle.std.proofs.lemmas.Result.{IfOk-weaker}
use Rattle.member_core.specs.declared.worlds.CopyAt.{CopyAt}
use Rattle.member_core.specs.Worlds.{no_copy}
use Rattle.member_core.specs.Events.{left_of}
use Rattle.member_core.proofs.Places.{at_found}
use Rattle.member_core.proofs.crashes.stopped_reads.Goals as goal

pub returns : goal.returns
returns c =
    IfOk-weaker c.left_of.result _ _ (λ reads is inside. is ∙ sym (ap (λ (y : CopyAt). left_of c.args.left y.reads y.next) (at_found no_copy c.args.at c.args.copies.now c.item-copy.result.now c.item-copy.ensures))) c.left_of.ensures
