use Rattle.std.proofs.Common.{arith}
use Rattle.job_select.proofs.EndLemmas.{filled_ended, freed_ended}
use Rattle.job_select.proofs.moving.end_with.Goals as goal

pub returns-in-Some : goal.returns-in-Some
returns-in-Some g c = λ slots none. filled_ended slots c.args.end c.max.result c.args.slot c.args.new.now (omega arith) (omega arith) none

pub returns-in-None : goal.returns-in-None
returns-in-None g c = λ slots none. freed_ended slots c.args.end c.args.slot c.args.new.now c.in-None.is none
