use Rattle.std.proofs.Common.{map}
use Rattle.brief_journal.specs.Brief.{brief_of}
use Rattle.brief_journal.proofs.Maps.{briefs_more}
use Rattle.brief_journal.proofs.entries.briefs_of.Goals as goal

pub loop-entry-preserved : goal.loop-entry-preserved
loop-entry-preserved c =
    briefs_more c.args.entries.now c.loop-entry.entry-index c.entry-item.result c.loop-entry.briefs.items c.push_brief.new.briefs.items (map brief_of c.args.entries.now) c.loop-entry-test.true c.entry-item.is c.in_ok-push_brief.ensures c.loop-entry.invariant
