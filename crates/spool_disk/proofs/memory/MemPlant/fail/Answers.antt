use Rattle.std.proofs.Common.{ap}
use Rattle.spool_disk.proofs.MemActs.{failed_acts, failed_alone}
use Rattle.spool_disk.specs.State.{State}
use Rattle.spool_disk.proofs.ReadCounts.{reads_idled}
use Rattle.spool_disk.proofs.memory.MemPlant.fail.Goals as goal

pub returns-clause-acts : goal.returns-clause-acts
returns-clause-acts c by = failed_acts c.args.self.now c.pass_failing.new.self c.pass_failing.ensures.small by c.args.part c.pass_failing.ensures.few c.pass_failing.ensures.fits c.pass_failing.ensures.state

pub returns-clause-alone : goal.returns-clause-alone
returns-clause-alone c = failed_alone c.args.self.now c.pass_failing.new.self c.pass_failing.ensures.small c.args.part c.pass_failing.ensures.few c.pass_failing.ensures.state

pub returns-clause-reads : goal.returns-clause-reads
returns-clause-reads c d = reads_idled c.args.self.now c.pass_failing.new.self d (ap (λ (x : State). x.deeds) c.pass_failing.ensures.state)
