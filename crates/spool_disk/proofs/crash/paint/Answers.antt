use Rattle.std.proofs.Common.{arith, sym, take, drop, get_or, List, subst}
use Rattle.std.proofs.lemmas.List.{length-take, take_all}
use Rattle.spool_disk.specs.declared.entry.Entry.{Entry}
use Rattle.spool_disk.specs.declared.entry.Entry.TheVariants.{Idle as EntryIdle}
use Rattle.spool_plant.specs.View.{Disk, slice}
use Rattle.spool_disk.specs.Deeds.{after}
use Rattle.spool_disk.specs.Entries.{deeds_of, kept_in, kept_by}
use Rattle.spool_plant.specs.Crash.{IsOnes}
use Rattle.spool_disk.proofs.Replaying.{next_after, quiet_at}
use Rattle.spool_disk.proofs.crash.paint.Goals as goal

pub loop-entry-preserved : goal.loop-entry-preserved
loop-entry-preserved c d arena quiet was =
    let i = c.loop-entry.entry-index in
    let e = get_or c.args.log.now i EntryIdle in
    let from = kept_in (take i c.args.log.now) in
    subst (λ (x : Disk). IsOnes x c.paint_one.new.image) (sym (next_after c.args.log.now arena i EntryIdle c.loop-entry-test.true c.args.slot d))
    (c.paint_one.ensures (after c.args.slot d (deeds_of (take i c.args.log.now) arena)) (slice from (kept_by e) arena) (omega (arith, length-take (kept_by e) (drop from arena))) (quiet_at c.args.slot i c.args.log.now EntryIdle quiet c.loop-entry-test.true) (c.loop-entry.invariant d arena quiet was))

pub returns : goal.returns
returns c d arena quiet was =
    subst (λ (l : List Entry). IsOnes (after c.args.slot d (deeds_of l arena)) c.loop-entry.image) (take_all c.loop-entry.entry-index c.args.log.now (omega (arith, c.loop-entry-test.false))) (c.loop-entry.invariant d arena quiet was)
