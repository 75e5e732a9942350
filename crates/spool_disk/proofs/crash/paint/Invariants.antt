use Rattle.std.proofs.Common.{take, List, ℕ}
use Rattle.spool_plant.specs.View.{Disk}
use Rattle.spool_disk.specs.Deeds.{after}
use Rattle.spool_disk.specs.Entries.{deeds_of}
use Rattle.spool_plant.specs.Crash.{IsOnes}
use Rattle.spool_disk.specs.Settled.{IsQuiet}
use Rattle.spool_disk.proofs.crash.paint.Given as goal

abbrev pub invariant-loop-entry : goal.invariant-loop-entry
invariant-loop-entry l = (d : Disk) (arena : List ℕ) → IsQuiet l.slot l.log → IsOnes d l.initial.image → IsOnes (after l.slot d (deeds_of (take l.entry-index l.log) arena)) l.image
