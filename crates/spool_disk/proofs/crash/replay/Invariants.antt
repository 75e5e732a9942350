use Rattle.std.proofs.Common.{◌≡◌, take}
use Rattle.spool_plant.specs.View.{Disk}
use Rattle.spool_disk.specs.Deeds.{after}
use Rattle.spool_disk.specs.Entries.{kept_in, deeds_of}
use Rattle.spool_disk.proofs.crash.replay.Given as goal

abbrev pub invariant-loop-entry : goal.invariant-loop-entry
invariant-loop-entry l = record {
  used : l.from ≡ kept_in (take l.entry-index l.log);
  disk : (d : Disk) → l.initial.disk ≡ d.bytes → l.disk ≡ (after l.slot d (deeds_of (take l.entry-index l.log) l.arena)).bytes;
}
