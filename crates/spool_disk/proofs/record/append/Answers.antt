use Rattle.std.proofs.Common.{arith, is_ok}
use Rattle.spool_disk.proofs.Entering.{pushed, pushed_kept}
use Rattle.spool_disk.proofs.record.append.Goals as goal

pub returns-clause-added : goal.returns-clause-added
returns-clause-added c =
    pushed c.args.log.now.items c.push_reserved.new.self.items c.args.arena.now.items c.extend_from_slice-done.new.self.items c.args.entry c.args.bytes.now (is_ok c.extend_from_slice-done.result)
    (c.extend_from_slice-done.ensures.succeeds (omega (arith, c.requires.room, c.args.arena.now.ok))) c.requires.fits c.requires.kept c.push_reserved.ensures.items c.extend_from_slice-done.ensures.items

pub returns-clause-fits : goal.returns-clause-fits
returns-clause-fits c =
    pushed_kept c.args.log.now.items c.push_reserved.new.self.items c.args.arena.now.items c.extend_from_slice-done.new.self.items c.args.entry c.args.bytes.now (is_ok c.extend_from_slice-done.result)
    (c.extend_from_slice-done.ensures.succeeds (omega (arith, c.requires.room, c.args.arena.now.ok))) c.requires.fits c.requires.kept c.push_reserved.ensures.items c.extend_from_slice-done.ensures.items
