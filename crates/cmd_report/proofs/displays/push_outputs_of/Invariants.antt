use Rattle.std.proofs.Common.{◌≡◌, ◌++◌, map, take, filter}
use Rattle.mas_types.specs.Queue.{is_of}
use Rattle.mas_types.specs.Shown.{output_line}
use Rattle.cmd_report.proofs.displays.push_outputs_of.Given as goal

-- the lines of the job's outputs so far
abbrev pub invariant-loop-output : goal.invariant-loop-output
invariant-loop-output l = l.lines ≡ l.initial.lines ++ map output_line (filter (is_of l.number) (take l.output-index l.outputs))
