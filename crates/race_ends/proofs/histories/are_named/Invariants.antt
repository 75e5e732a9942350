use Rattle.std.proofs.Common.{take}
use Rattle.std.specs.Prelude.{All}
use Rattle.brief_journal.specs.Brief.{entry_of}
use Rattle.cmd_report.specs.Named.{IsEntryNamed}
use Rattle.race_ends.proofs.histories.are_named.Given as goal

-- all so far have names
abbrev pub invariant-loop-brief : goal.invariant-loop-brief
invariant-loop-brief l = All (λ b. IsEntryNamed (entry_of b)) (take l.brief-index l.briefs)
