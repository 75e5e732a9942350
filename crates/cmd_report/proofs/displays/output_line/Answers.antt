use Rattle.std.proofs.Common.{decimal}
use Rattle.mas_types.specs.Names.{name_text}
use Rattle.mas_types.specs.Queue.{line_count}
use Rattle.mas_types.specs.Shown.{busy_text, held_text, output_key}
use Rattle.cmd_report.proofs.Pieces.{output_pieces}
use Rattle.cmd_report.proofs.displays.output_line.Goals as goal

pub returns : goal.returns
returns c =
    let o = c.args.output.now in
    output_pieces c.new-line.result c.push_sorting.new.line c.push_counts.new.line c.push_use.new.line (output_key o.job o.index) o.class.0 (name_text o.dest) (name_text o.forms) (decimal o.copies) (decimal (line_count o.text)) (decimal o.mark) (busy_text o.busy) (held_text o.held)
    c.new-line.ensures c.in_ok-push_sorting.ensures c.in_ok-push_counts.ensures c.in_ok-push_use.ensures
