use Rattle.std.proofs.Common.{◌≡◌, ◌+◌, ◌++◌, length, map, drop}
use Rattle.mas_types.specs.Histories.{history_lines}
use Rattle.brief_journal.specs.Brief.{entry_of}
use Rattle.cmd_report.proofs.histories.push_briefs.Given as goal

-- what is left decides
abbrev pub invariant-loop-brief : goal.invariant-loop-brief
invariant-loop-brief l = record {
  count : length l.lines ≡ length l.initial.lines + l.brief-index;
  left : l.lines ++ history_lines (length l.lines + 1) (map entry_of (drop l.brief-index l.briefs)) ≡ l.initial.lines ++ history_lines (length l.initial.lines + 1) (map entry_of l.briefs);
}
