use Rattle.std.proofs.Common.{◌≡◌, ◌++◌, map, drop}
use Rattle.brief_journal.specs.Brief.{entry_of}
use Rattle.gen_work.specs.Summaries.{counted_in}
use Rattle.gen_work.proofs.summaries.push_entries.Given as goal

-- what is left is added
abbrev pub invariant-loop-brief : goal.invariant-loop-brief
invariant-loop-brief l = l.counted ++ counted_in (map entry_of (drop l.brief-index l.briefs)) ≡ l.initial.counted ++ counted_in (map entry_of l.briefs)
