use Rattle.std.proofs.Common.{◌≡◌, ◌+◌, ◌≤◌, length, ℕ, List}
use Rattle.std.specs.List.{All}
use Rattle.mas_types.specs.LinesLeft.{left_in}
use Rattle.mas_types.specs.Limits.{line_bytes, page_bytes}
use Rattle.mas_types.specs.Owners.{groups_after, groups_needed}
use Rattle.spool_text.proofs.packing.groups_needed.Given as goal

-- the groups so far, and those that the rest takes
abbrev pub invariant-loop-line : goal.invariant-loop-line
invariant-loop-line l = record {
  room : l.used ≤ page_bytes;
  few : l.groups + length (left_in l.line-iterator) ≤ length l.lines + 1;
  short : All (λ (line : List ℕ). length line ≤ line_bytes) (left_in l.line-iterator);
  rest : l.groups + groups_after l.used (left_in l.line-iterator) ≡ groups_needed l.lines + 1;
}
