use Rattle.spool_disk.specs.declared.entry.Entry.TheVariants.{Idle as EntryIdle}
use Rattle.spool_disk.proofs.Replaying.{last_next}
use Rattle.spool_disk.proofs.crash.last_sync.Goals as goal

pub loop-i-preserved : goal.loop-i-preserved
loop-i-preserved c =
    let so_far = c.loop-i.invariant in
    let more = last_next c.args.slot c.args.log.now c.loop-i.i EntryIdle c.loop-i-test.true c.loop-i.last c.latest-last.result c.latest-last.ensures so_far.within so_far.ends so_far.quiet in
    record { within = more.0; ends = more.1; quiet = more.2 }
