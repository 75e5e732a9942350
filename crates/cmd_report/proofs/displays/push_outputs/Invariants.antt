use Rattle.std.proofs.Common.{◌≡◌, ◌++◌, map, take}
use Rattle.mas_types.specs.Shown.{output_line}
use Rattle.cmd_report.proofs.displays.push_outputs.Given as goal

-- the lines of the outputs so far
abbrev pub invariant-loop-output : goal.invariant-loop-output
invariant-loop-output l = l.lines ≡ l.initial.lines ++ map output_line (take l.output-index l.outputs)
