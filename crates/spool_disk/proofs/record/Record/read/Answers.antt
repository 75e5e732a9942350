use Rattle.std.proofs.Common.{arith, ap, List, length, Vec, ℕ}
use Rattle.std.specs.declared.alloc.Global.{Global}
use Rattle.spool_disk.specs.Standing.{bytes_at}
use Rattle.spool_disk.specs.Entries.{deeds_of}
use Rattle.spool_disk.proofs.Current.{current_size}
use Rattle.spool_disk.proofs.record.Record.read.Goals as goal

pub read_at-requires-clause-room : goal.read_at-requires-clause-room
read_at-requires-clause-room c =
    let s = c.args.self.now in
    omega (arith, c.requires.within, current_size s.base s.disks.items (deeds_of s.log.items s.arena.items) c.args.slot s.current c.requires.there, ap (λ (l : List (Vec ℕ Global)). length (bytes_at l c.args.slot)) c.deref.ensures.value)
