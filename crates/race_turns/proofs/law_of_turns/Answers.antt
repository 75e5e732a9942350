use Rattle.race_turns.specs.Sides.{anything}
use Rattle.race_turns.proofs.Histories.{one_history}
use Rattle.race_turns.proofs.law_of_turns.Goals as goal

pub returns : goal.returns
returns c base by ended = one_history base by anything ended
