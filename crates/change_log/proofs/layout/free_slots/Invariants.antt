use Rattle.std.proofs.Common.{◌≡◌, ◌≤◌, drop}
use Rattle.change_log.specs.Logs.{free_after}
use Rattle.change_log.proofs.layout.free_slots.Given as goal

abbrev pub invariant-loop-is_open : goal.invariant-loop-is_open
invariant-loop-is_open l = record {
  few : l.free ≤ l.is_open-index;
  rest : free_after l.free (drop l.is_open-index l.gates) ≡ free_after 0 l.gates;
}
