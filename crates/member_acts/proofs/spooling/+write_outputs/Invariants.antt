use Rattle.member_acts.proofs.Names.{length}
use Rattle.member_acts.proofs.spooling.+write_outputs.Given as goal

abbrev pub decreases-write_outputs : goal.decreases-write_outputs
decreases-write_outputs g l = length l.specs.now
