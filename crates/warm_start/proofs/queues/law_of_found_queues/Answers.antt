use Rattle.warm_start.proofs.Begun.{stand_of}
use Rattle.warm_start.proofs.queues.law_of_found_queues.Goals as goal

pub returns : goal.returns
returns c = record { stand = λ pages t Q. stand_of Q pages t }
