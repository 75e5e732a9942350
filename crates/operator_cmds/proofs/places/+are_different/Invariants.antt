use Rattle.std.proofs.Common.{length}
use Rattle.operator_cmds.proofs.places.+are_different.Given as goal

abbrev pub decreases-are_different : goal.decreases-are_different
decreases-are_different l = length l.text.now
