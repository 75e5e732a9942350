use Rattle.std.proofs.Common.{◌++◌, map}
use Rattle.brief_journal.specs.declared.entries.BriefCommand.TheVariants.{Begin}
use Rattle.brief_journal.specs.declared.entries.BriefEntry.{BriefEntry}
use Rattle.brief_journal.specs.declared.entries.BriefReply.TheVariants.{Plain}
use Rattle.brief_journal.specs.Brief.{entry_of}
use Rattle.gen_work.specs.Summaries.{counted_in}
use Rattle.gen_work.proofs.Sums.{briefs_more}
use Rattle.gen_work.proofs.summaries.push_entries.Goals as goal

pub loop-brief-preserved : goal.loop-brief-preserved
loop-brief-preserved c =
    let none : BriefEntry = record { by = record { 0 = 0 }; step = 0; command = Begin; reply = Plain } in
    briefs_more c.args.briefs.now c.loop-brief.brief-index none c.loop-brief.counted c.push_entry.new.counted (c.args.counted.now ++ counted_in (map entry_of c.args.briefs.now)) c.loop-brief-test.true c.in_ok-push_entry.ensures c.loop-brief.invariant
