use Rattle.mas_complex.proofs.Answering.{◌≡◌, ◌+◌, ◌≤◌, min, length, drop, top, kept_all}
use Rattle.mas_complex.proofs.locking.entries_kept.Given as goal

abbrev pub invariant-loop-batch : goal.invariant-loop-batch
invariant-loop-batch l = (l.count ≤ top) × (min (l.count + length (kept_all (drop l.batch-index l.batches))) top ≡ min (length (kept_all l.batches)) top)
