use Rattle.spool_disk.proofs.Current.{current_push, silent_said}
use Rattle.spool_disk.proofs.record.Record.add_line.Goals as goal

pub invariant_of-self-clause-current : goal.invariant_of-self-clause-current
invariant_of-self-clause-current c = current_push c.args.self.now.base c.args.self.now.disks.items _ _ _ c.args.self.now.current (silent_said c.args.place c.args.text.now c.args.whole) c.append.ensures.added
