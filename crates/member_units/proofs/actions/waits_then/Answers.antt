use Rattle.member_units.proofs.Parts.{wait_done, wait_not}
use Rattle.member_units.proofs.actions.waits_then.Goals as goal

pub returns-in-Done : goal.returns-in-Done
returns-in-Done c = rw c.in-Done.is (wait_done c.args.then)

pub returns-in_default : goal.returns-in_default
returns-in_default c = wait_not c.args.end.now c.args.then c.in_default.not-Done
