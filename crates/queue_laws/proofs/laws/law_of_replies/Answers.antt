use Rattle.queue_laws.proofs.Replies.{names_members}
use Rattle.queue_laws.proofs.laws.law_of_replies.Goals as goal

pub returns : goal.returns
returns c = names_members
