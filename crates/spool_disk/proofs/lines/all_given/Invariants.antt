use Rattle.std.proofs.Common.{◌≡◌, take}
use Rattle.spool_disk.specs.Deeds.{gather, gives}
use Rattle.spool_disk.specs.Entries.{kept_in, deeds_of}
use Rattle.spool_disk.proofs.lines.all_given.Given as goal

abbrev pub invariant-loop-entry : goal.invariant-loop-entry
invariant-loop-entry l = record {
  used : l.from ≡ kept_in (take l.entry-index l.log);
  given : l.given ≡ gather (gives l.wire) (deeds_of (take l.entry-index l.log) l.arena);
}
