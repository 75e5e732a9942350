use Rattle.std.proofs.Common.{◌≡◌, ◌++◌, take}
use Rattle.queue_report.proofs.reports.push_lines.Given as goal

abbrev pub invariant-loop-at : goal.invariant-loop-at
invariant-loop-at l = l.lines ≡ l.initial.lines ++ take l.at l.more
