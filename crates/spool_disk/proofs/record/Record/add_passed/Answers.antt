use Rattle.spool_disk.proofs.Current.{current_push, silent_passed}
use Rattle.spool_disk.proofs.record.Record.add_passed.Goals as goal

pub invariant_of-self-clause-current : goal.invariant_of-self-clause-current
invariant_of-self-clause-current c = current_push c.args.self.now.base c.args.self.now.disks.items _ _ _ c.args.self.now.current (silent_passed c.args.given c.args.wire c.args.by c.args.bytes.now) c.append.ensures.added
