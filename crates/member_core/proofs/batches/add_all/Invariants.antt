use Rattle.std.proofs.Common.{◌≡◌, ◌++◌, take}
use Rattle.member_core.proofs.batches.add_all.Given as goal

-- the entries so far are added
abbrev pub invariant-loop-entry : goal.invariant-loop-entry
invariant-loop-entry l = l.all ≡ l.fn.all ++ take l.entry-index l.entry-items
