use Rattle.std.proofs.Common.{◌≡◌, ◌∙◌, ◌+◌, ap, ℕ, List, [], ◌∷◌, ◌++◌, length, take, get_or, arith}
use Rattle.std.proofs.lemmas.List.{length-append}
use Rattle.mas_types.specs.declared.journals.Batch.{Batch}
use Rattle.mas_types.specs.Histories.{history_end}
use Rattle.cmd_report.specs.Named.{kept_in}
use Rattle.cmd_report.proofs.Pieces.{kept_of, kept_of-one_more, kept_of-within, length-history_lines, history_more, history_whole}
use Rattle.cmd_report.proofs.histories.history.Goals as goal

pub push_batch-requires-clause-count : goal.push_batch-requires-clause-count
push_batch-requires-clause-count c =
    let bs = c.args.journal.now.batches in
    let i = c.loop-batch.batch-index in
    let b = c.batch-item.result in
    let items = ap length c.batches-batch-items.ensures in
    let is : b ≡ get_or bs i b = c.batch-item.is ∙ ap (λ (xs : List Batch). get_or xs i b) c.batches-batch-items.ensures in
    let more = ap length (kept_of-one_more bs i b (omega (arith, items)) is) in
    let within = kept_of-within bs (i + 1) in
    omega (arith, more, within, length-append (kept_of (take i bs)) (kept_in b), ap length c.loop-batch.invariant, length-history_lines 1 (kept_of (take i bs)), c.requires.count)

pub loop-batch-preserved : goal.loop-batch-preserved
loop-batch-preserved c =
    let bs = c.args.journal.now.batches in
    let i = c.loop-batch.batch-index in
    let b = c.batch-item.result in
    let items = ap length c.batches-batch-items.ensures in
    let is : b ≡ get_or bs i b = c.batch-item.is ∙ ap (λ (xs : List Batch). get_or xs i b) c.batches-batch-items.ensures in
    history_more c.loop-batch.lines c.push_batch.new.lines bs i b (omega (arith, items)) is c.loop-batch.invariant c.in_ok-push_batch.ensures

pub returns : goal.returns
returns c =
    let bs = c.args.journal.now.batches in
    let items = ap length c.batches-batch-items.ensures in
    history_whole c.loop-batch.lines c.push.new.self c.in_ok-end.end bs c.loop-batch.batch-index (omega (arith, items)) c.loop-batch.invariant
    (c.in_ok-end.ensures ∙ ap history_end c.len.ensures)
    (c.in_ok-push.ensures.ok ∙ ap (λ (l : List ℕ). c.loop-batch.lines ++ l ∷ []) c.as_slice.ensures)
