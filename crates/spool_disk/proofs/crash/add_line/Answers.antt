use Rattle.spool_disk.proofs.Replaying.{add_said, add_said_kept}
use Rattle.spool_disk.proofs.crash.add_line.Goals as goal

pub returns-in_ok-push-clause-lines : goal.returns-in_ok-push-clause-lines
returns-in_ok-push-clause-lines c = add_said c.args.said.now.items c.push.new.self.items c.args.text.now.items c.extend_from_slice.new.self.items c.args.entry.now c.args.bytes.now c.requires.fits c.requires.kept c.in_ok-push.ensures.items c.in_ok-extend_from_slice.ensures.items

pub returns-in_ok-push-clause-fits : goal.returns-in_ok-push-clause-fits
returns-in_ok-push-clause-fits c = add_said_kept c.args.said.now.items c.push.new.self.items c.args.text.now.items c.extend_from_slice.new.self.items c.args.entry.now c.args.bytes.now c.requires.fits c.requires.kept c.in_ok-push.ensures.items c.in_ok-extend_from_slice.ensures.items
