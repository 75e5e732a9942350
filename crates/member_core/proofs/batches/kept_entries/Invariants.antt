use Rattle.std.proofs.Common.{◌≡◌, ◌++◌, drop}
use Rattle.member_core.specs.Worlds.{kept_in}
use Rattle.member_core.proofs.batches.kept_entries.Given as goal

-- the kept entries so far, and those that are left
abbrev pub invariant-loop-batch : goal.invariant-loop-batch
invariant-loop-batch l = l.all ++ kept_in (drop l.batch-index l.batch-items) ≡ kept_in l.batch-items
