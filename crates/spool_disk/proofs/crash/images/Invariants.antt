use Rattle.std.proofs.Common.{◌≡◌, ℕ, ◌<◌, length}
use Rattle.spool_disk.specs.Standing.{bytes_at}
use Rattle.spool_disk.specs.Entries.{deeds_of}
use Rattle.spool_disk.specs.LeavesAt.{LeavesAt}
use Rattle.spool_disk.proofs.crash.images.Given as goal

abbrev pub invariant-loop-slot : goal.invariant-loop-slot
invariant-loop-slot l = record {
  many : length l.all.items ≡ l.slot;
  each : (slot : ℕ) → slot < l.slot → LeavesAt l.choice l.base slot (deeds_of l.log l.arena) (bytes_at l.all.items slot);
}
