use Rattle.track_groups.proofs.LowestLemmas.{places-no_members, gives_in_turn, hands_out}
use Rattle.track_groups.proofs.laws.law_of_giving.Goals as goal

pub returns : goal.returns
returns c = record { texts = λ m t count. places-no_members m t 0 count; turns = gives_in_turn; all = hands_out }
