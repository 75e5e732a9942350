use Rattle.std.proofs.Common.{refl, ap, List}
use Rattle.spool_disk.specs.declared.entry.Entry.{Entry}
use Rattle.spool_disk.specs.Entries.{deeds_of}
use Rattle.spool_disk.specs.State.{State}
use Rattle.spool_disk.specs.Waiting.{waiting_on}
use Rattle.spool_disk.proofs.Restart.{begins}
use Rattle.spool_disk.proofs.memory.MemPlant.begin.Goals as goal

pub returns-clause-view : goal.returns-clause-view
returns-clause-view c =
    let kept = c.in_ok-kept.kept in
    let counts = c.in_ok-counts.counts in
    let s : State = record { now = 0; base = kept.base; deeds = deeds_of kept.log.items kept.arena.items; parts = counts.parts.items; stops = record { counts = counts.stops.items; last = 0 }; loses = counts.loses.items; arms = counts.arms.items; waiting = waiting_on c.in_ok-incoming.incoming } in
    begins c.args.base c.args.parts.items s refl c.in_ok-kept.ensures.base (ap (λ (l : List Entry). deeds_of l kept.arena.items) c.in_ok-kept.ensures.log.0)
    c.in_ok-counts.ensures.parts c.in_ok-counts.ensures.stops refl c.in_ok-counts.ensures.loses c.in_ok-counts.ensures.arms c.in_ok-incoming.ensures c.requires.none
