use Rattle.queue_laws.proofs.MarksFollow.{marks_follow, mark_is_at_most}
use Rattle.queue_laws.proofs.laws.law_of_marks.Goals as goal

pub returns : goal.returns
returns c = record { follow = marks_follow; at_most = mark_is_at_most }
