use Rattle.std.proofs.Common.{◌≡◌, ◌+◌, ◌-◌, ◌++◌}
use Rattle.mas_types.specs.Shown.{volume_lines}
use Rattle.cmd_report.proofs.displays.push_volumes.Given as goal

-- what is left decides
abbrev pub invariant-loop-before : goal.invariant-loop-before
invariant-loop-before l =
    l.lines ++ volume_lines (l.before + 1) (l.queue.config.volumes - l.before) l.rest l.groups ≡ l.initial.lines ++ volume_lines 1 l.queue.config.volumes l.queue.owners l.groups
