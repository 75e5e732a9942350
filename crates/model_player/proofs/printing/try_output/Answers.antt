use Rattle.std.proofs.Common.{sym}
use Rattle.model_player.proofs.PrintLemmas.{printing_few}
use Rattle.model_player.proofs.printing.try_output.Goals as goal

pub next_command-requires : goal.next_command-requires
next_command-requires c = printing_few c.args.spool.now.queues.queue c.args.by c.in-Some.output.now c.requires.queue (sym c.in-Some.ensures)
