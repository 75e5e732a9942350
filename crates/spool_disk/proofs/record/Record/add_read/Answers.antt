use Rattle.spool_disk.proofs.Current.{current_push, silent_read}
use Rattle.spool_disk.proofs.record.Record.add_read.Goals as goal

pub invariant_of-self-clause-current : goal.invariant_of-self-clause-current
invariant_of-self-clause-current c = current_push c.args.self.now.base c.args.self.now.disks.items _ _ _ c.args.self.now.current (silent_read c.args.slot) c.append.ensures.added
