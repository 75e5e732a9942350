use Rattle.queue_laws.proofs.OwnersFollow.{owners_follow, groups_stay, groups_taken, groups_given}
use Rattle.queue_laws.proofs.laws.law_of_groups.Goals as goal

pub returns : goal.returns
returns c = record { all = owners_follow; stay = groups_stay; taken = groups_taken; given = groups_given }
