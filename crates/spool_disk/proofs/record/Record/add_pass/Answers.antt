use Rattle.std.proofs.Common.{arith}
use Rattle.spool_disk.specs.Entries.{deeds_of}
use Rattle.spool_disk.proofs.Entering.{passed, passed_full}
use Rattle.spool_disk.proofs.record.Record.add_pass.Goals as goal

pub returns-then-len-self-clause-deeds : goal.returns-then-len-self-clause-deeds
returns-then-len-self-clause-deeds c =
    let s = c.args.self.now in
    passed s.log.items s.arena.items s.acts (deeds_of c.add_idle.new.self.log.items c.add_idle.new.self.arena.items) (omega (arith, c.if-len-self.true, c.len.ensures, s.log.ok)) c.add_idle.ensures.deeds

pub returns-else-len-self-clause-deeds : goal.returns-else-len-self-clause-deeds
returns-else-len-self-clause-deeds c =
    let s = c.args.self.now in
    passed_full s.log.items s.arena.items s.acts (omega (arith, c.if-len-self.false, c.len.ensures, s.log.ok))
