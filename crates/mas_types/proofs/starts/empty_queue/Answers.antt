use Rattle.mas_types.proofs.EmptyQueue.{empty_queue-sound}
use Rattle.mas_types.proofs.starts.empty_queue.Goals as goal

pub returns-clause-sound : goal.returns-clause-sound
returns-clause-sound c =
    rw (c.new.ensures, c.new-2.ensures, c.in_ok-owners.ensures, c.in_ok-members.ensures, c.in_ok-routes.ensures, c.in_ok-lines.ensures, c.no_count.ensures)
    (empty_queue-sound c.args.config.now c.args.routes.now)
