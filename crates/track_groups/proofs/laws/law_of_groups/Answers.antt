use Rattle.track_groups.proofs.LowestLemmas.{takes_lowest, gives_lowest}
use Rattle.track_groups.proofs.laws.law_of_groups.Goals as goal

pub returns : goal.returns
returns c = record { taken = takes_lowest; given = gives_lowest }
