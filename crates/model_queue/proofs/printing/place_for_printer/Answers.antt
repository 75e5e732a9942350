use Rattle.mas_types.specs.Selection.{may_print, of_class, output_prio}
use Rattle.model_queue.proofs.Best.{no_key}
use Rattle.model_queue.proofs.printing.place_for_printer.Goals as goal

pub returns-in-Some-clause-some : goal.returns-in-Some-clause-some
returns-in-Some-clause-some c = rw c.in-Some.ensures c.best_place_by_class.ensures.some

pub returns-in-Some-clause-none : goal.returns-in-Some-clause-none
returns-in-Some-clause-none c = rw c.in-Some.ensures c.best_place_by_class.ensures.none

pub returns-in-None-clause-none : goal.returns-in-None-clause-none
returns-in-None-clause-none c = rw c.in-None.ensures (no_key of_class (may_print c.args.queue.now c.args.by) c.args.queue.now.outputs (output_prio c.args.queue.now))
