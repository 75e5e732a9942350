use Rattle.std.proofs.Common.{ap}
use Rattle.spool_disk.proofs.MemActs.{lost_acts, lost_there}
use Rattle.spool_disk.specs.State.{State}
use Rattle.spool_disk.proofs.ReadCounts.{reads_idled}
use Rattle.spool_disk.proofs.memory.MemPlantPlant.lose.Goals as goal

pub returns-clause-acts : goal.returns-clause-acts
returns-clause-acts c = lost_acts c.args.self.now c.pass_losing.new.self c.pass_losing.ensures.small c.args.dev c.pass_losing.ensures.few c.pass_losing.ensures.fits c.pass_losing.ensures.state

pub returns-clause-content : goal.returns-clause-content
returns-clause-content c = lost_there c.args.self.now c.pass_losing.new.self c.pass_losing.ensures.small c.args.dev c.pass_losing.ensures.few c.pass_losing.ensures.state

pub returns-clause-reads : goal.returns-clause-reads
returns-clause-reads c d = reads_idled c.args.self.now c.pass_losing.new.self d (ap (λ (x : State). x.deeds) c.pass_losing.ensures.state)
