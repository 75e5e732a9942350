use Rattle.std.proofs.Common.{◌≡◌, ◌+◌, ◌++◌, drop}
use Rattle.mas_types.specs.Shown.{member_lines}
use Rattle.cmd_report.proofs.displays.push_members.Given as goal

-- what is left decides
abbrev pub invariant-loop-before : goal.invariant-loop-before
invariant-loop-before l = l.lines ++ member_lines (l.before + 1) (drop l.before l.members) ≡ l.initial.lines ++ member_lines 1 l.members
