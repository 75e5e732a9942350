use Rattle.std.proofs.Common.{◌≡◌, ◌++◌, drop}
use Rattle.member_core.specs.Worlds.{flying_in}
use Rattle.member_core.proofs.batches.add_each_flying.Given as goal

-- the entries in flight so far, and those that are left
abbrev pub invariant-loop-batch : goal.invariant-loop-batch
invariant-loop-batch l = l.all ++ flying_in (drop l.batch-index l.batch-items) ≡ l.fn.all ++ flying_in l.batch-items
