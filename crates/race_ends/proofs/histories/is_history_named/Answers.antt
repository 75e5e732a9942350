use Rattle.std.proofs.Common.{◌≡◌, ◌∙◌, List, length, get_or, ap, subst, arith}
use Rattle.std.proofs.lemmas.List.{take_all}
use Rattle.std.proofs.lemmas.List.Elements.{All-more, All-nil}
use Rattle.std.specs.Prelude.{All}
use Rattle.mas_types.specs.declared.journals.Batch.{Batch}
use Rattle.brief_journal.specs.declared.entries.BriefEntry.{BriefEntry}
use Rattle.cmd_report.specs.Named.{IsEntryNamed}
use Rattle.race_ends.proofs.HistoryLemmas.{IsBriefNamed, named_whole}
use Rattle.race_ends.proofs.histories.is_history_named.Goals as goal

abbrev AreOne : Batch → Type 0
AreOne b = All IsEntryNamed b.entries

pub loop-batch-init : goal.loop-batch-init
loop-batch-init c = All-nil AreOne

pub loop-batch-preserved : goal.loop-batch-preserved
loop-batch-preserved c =
    let bs = c.args.journal.now.batches in
    let i = c.loop-batch.batch-index in
    let b = c.batch-item.result in
    let items = ap length c.batches-batch-items.ensures in
    let is : b ≡ get_or bs i b = c.batch-item.is ∙ ap (λ (xs : List Batch). get_or xs i b) c.batches-batch-items.ensures in
    All-more AreOne bs i b (omega (arith, items, c.loop-batch-test.true)) c.loop-batch.invariant
    (subst AreOne is (named_whole b.entries (subst (λ (ns : List BriefEntry). All IsBriefNamed ns) c.briefs.ensures (c.are_named.ensures c.if-not-are_named.false))))

pub returns : goal.returns
returns c is =
    let items = ap length c.batches-batch-items.ensures in
    subst (λ (bs : List Batch). All AreOne bs) (take_all c.loop-batch.batch-index c.args.journal.now.batches (omega (arith, items, c.loop-batch-test.false))) c.loop-batch.invariant
