use Rattle.spool_disk.specs.Entries.{deeds_of}
use Rattle.spool_disk.proofs.Current.{current_renewal}
use Rattle.spool_disk.proofs.record.Record.add_renewal.Goals as goal

pub invariant_of-self-clause-current : goal.invariant_of-self-clause-current
invariant_of-self-clause-current c =
    let s = c.args.self.now in
    current_renewal s.base s.disks.items c.clear_at.new.disks.items (deeds_of s.log.items s.arena.items) _ c.args.slot c.args.since s.current c.clear_at.ensures.bytes c.append.ensures.added
