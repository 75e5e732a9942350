use Rattle.track_groups.proofs.OrderLemmas.{own_groups, places_ascend}
use Rattle.track_groups.proofs.laws.law_of_places.Goals as goal

pub returns : goal.returns
returns c = record { own = own_groups; ascending = places_ascend }
