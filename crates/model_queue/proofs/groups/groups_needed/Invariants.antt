use Rattle.std.proofs.Common.{◌≡◌, ◌+◌, ◌≤◌, drop}
use Rattle.mas_types.specs.Owners.{groups_after, groups_needed}
use Rattle.model_queue.proofs.groups.groups_needed.Given as goal

-- the groups so far, and those that the rest takes
abbrev pub invariant-loop-at : goal.invariant-loop-at
invariant-loop-at l = record {
  room : l.used ≤ 4096;
  few : l.groups ≤ l.at + 1;
  rest : l.groups + groups_after l.used (drop l.at l.lines) ≡ groups_needed l.lines + 1;
}
