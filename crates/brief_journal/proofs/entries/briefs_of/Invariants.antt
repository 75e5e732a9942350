use Rattle.std.proofs.Common.{◌≡◌, ◌++◌, map, drop}
use Rattle.brief_journal.specs.Brief.{brief_of}
use Rattle.brief_journal.proofs.entries.briefs_of.Given as goal

-- what is left is added
abbrev pub invariant-loop-entry : goal.invariant-loop-entry
invariant-loop-entry l = l.briefs.items ++ map brief_of (drop l.entry-index l.entries) ≡ map brief_of l.entries
