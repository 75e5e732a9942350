use Rattle.std.proofs.Common.{sym}
use Rattle.mas_types.specs.Queue.{has_key}
use Rattle.model_queue.proofs.Rows.{few_lines}
use Rattle.model_queue.proofs.printing.not_done.Goals as goal

pub not_done_by-requires : goal.not_done_by-requires
not_done_by-requires c = few_lines c.args.queue.now c.requires (has_key c.args.job c.args.index) _ (sym c.in-Some.ensures)
