use Rattle.std.proofs.Common.{◌≡◌, ℕ, [], length}
use Rattle.spool_disk.specs.Standing.{bytes_at}
use Rattle.spool_disk.proofs.incoming.empty_wires.Given as goal

abbrev pub invariant-loop-wire : goal.invariant-loop-wire
invariant-loop-wire l = record {
  many : length l.all.items ≡ l.wire;
  each : (w : ℕ) → bytes_at l.all.items w ≡ [];
}
