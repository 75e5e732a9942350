use Rattle.std.proofs.Common.{◌≡◌, take}
use Rattle.mas_types.specs.Closings.{detail_lines}
use Rattle.cmd_report.proofs.lines.details.Given as goal

-- the lines so far
abbrev pub invariant-loop-at : goal.invariant-loop-at
invariant-loop-at l = l.lines ≡ detail_lines l.by l.step (take l.at l.shown)
