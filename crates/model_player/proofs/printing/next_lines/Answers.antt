use Rattle.std.proofs.Common.{◌≤◌, length, sym, subst}
use Rattle.mas_types.specs.declared.jobs.Text.{Text}
use Rattle.mas_types.specs.Queue.{line_count}
use Rattle.model_player.proofs.PrintLemmas.{printing_few, printing_sound}
use Rattle.model_player.proofs.printing.next_lines.Goals as goal

pub lines_behind-requires : goal.lines_behind-requires
lines_behind-requires c =
    let S = c.args.queues.now in
    let some : 1 ≤ line_count c.in-Some.output.now.text = (printing_sound S.queue c.args.by c.in-Some.output.now c.requires.queue (sym c.in-Some.ensures)).lines in
    record {
      few = printing_few S.queue c.args.by c.in-Some.output.now c.requires.queue (sym c.in-Some.ensures);
      some = subst (λ (t : Text). 1 ≤ line_count t) c.in-Whole.is some;
    }
